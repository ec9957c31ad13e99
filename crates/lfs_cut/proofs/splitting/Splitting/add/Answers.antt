-- The entry goes into the last run or into another one.
use Rattle.std.proofs.Common.{◌≡◌, [], ◌∷◌, ◌++◌, ap, sym, ◌∙◌, map}
use Rattle.lfs_cut.proofs.RunSplits.{stays_in, goes_on}
use Rattle.lfs_cut.proofs.splitting.Splitting.add.Goals as goal
use Rattle.lfs_cut.proofs.splitting.Splitting.add.Goals.{then-not-run_takes+in_ok-next_run, else-not-run_takes}

pub returns : goal.returns
returns c complete left to = elim c.if-not-run_takes.branch [
  | then-not-run_takes+in_ok-next_run w ↦
      (let put : c.push.new.self.items ≡ w.next_run.new.self.run.items ++ c.args.entry ∷ [] =
      c.in_ok-push.ensures.items ∙ ap (λ s. s.run.items ++ c.args.entry ∷ []) w.self-is in
      rw w.self-is (goes_on complete c.args.room (map (λ run. run.items) c.args.self.now.done.items)
      (map (λ run. run.items) w.next_run.new.self.done.items)
      c.args.self.now.run.items w.next_run.new.self.run.items
      c.push.new.self.items c.args.self.now.taken c.args.self.now.len w.next_run.new.self.taken w.next_run.new.self.len c.weight-next.result
      c.args.entry left
      c.weight-next.ensures.value c.weight-next.ensures.small (sym c.run_takes.ensures ∙ w.if-not-run_takes.true)
      w.in_ok-next_run.ensures.done w.in_ok-next_run.ensures.run
      w.in_ok-next_run.ensures.empty.0 w.in_ok-next_run.ensures.empty.1 put to))
  | else-not-run_takes w ↦
      (let put : c.push.new.self.items ≡ c.args.self.now.run.items ++ c.args.entry ∷ [] =
      c.in_ok-push.ensures.items ∙ ap (λ s. s.run.items ++ c.args.entry ∷ []) w.self-is in
      rw w.self-is (stays_in complete c.args.room (map (λ run. run.items) c.args.self.now.done.items)
      c.args.self.now.run.items c.push.new.self.items c.args.self.now.taken c.args.self.now.len c.weight-next.result
      c.args.entry left c.requires.room c.weight-next.ensures.value (sym c.run_takes.ensures ∙ w.if-not-run_takes.false) put to))
]
