use Rattle.std.proofs.Common.{◌+◌, ℕ, arith, subst, sym, ◌∙◌}
use Rattle.std.proofs.lemmas.Result.{err_from_is_err_and}
use Rattle.lfs_fs.specs.Ordered.{Enters}
use Rattle.lfs_fs.proofs.WalkingLemmas.{walking_file, walking_directory, walking_fault, work_less}
use Rattle.lfs_fs.proofs.ordering.Walk.list.Goals as goal
use Rattle.lfs_fs.proofs.ordering.Walk.list.Goals.{in-Some+in_ok-enter, in_default}

pub returns-in_err-enter-clause-refused : goal.returns-in_err-enter-clause-refused
returns-in_err-enter-clause-refused c =
    let old = c.args.self.now in
    let p = err_from_is_err_and c.from_residual.result c.from_residual.ensures.1 in
    rw (p.1, p.2) (walking_fault c.args.outline.now old.table.entries old.order.items c.args.place
    old.waiting old.opened.items c.in-Some.pair c.in_err-enter.field-0.0
    (sym c.target_of.ensures ∙ c.in-Some.is) c.in_err-enter.ensures.refused c.requires.walking)

pub returns-clause-listed : goal.returns-clause-listed
returns-clause-listed c =
    let o = c.args.outline.now in
    let old = c.args.self.now in
    let x = c.args.place in
    elim c.match-target_of.branch [
      | in-Some+in_ok-enter w ↦
          let entered = subst (λ (n : ℕ). Enters o.directories old.table.entries w.in-Some.pair
          (n + 1) old.opened.items w.enter.new.self.opened.items
          old.waiting w.enter.new.self.waiting) w.from.ensures w.in_ok-enter.ensures.entered in
          let step = walking_directory o old.table.entries old.order.items x
          old.waiting old.opened.items w.enter.new.self.opened.items w.in-Some.pair w.enter.new.self.waiting
          (sym c.target_of.ensures ∙ w.in-Some.is) entered c.requires.walking in
          rw (c.in_ok-push.ensures.pushed, w.self-is, w.in_ok-enter.ensures.order, w.in_ok-enter.ensures.table) step
      | in_default w ↦
          let step = walking_file o old.table.entries old.order.items x old.waiting old.opened.items
          (sym c.target_of.ensures ∙ w.in_default.is) c.requires.walking in
          rw (c.in_ok-push.ensures.pushed, w.self-is) step
    ]

pub returns-clause-less : goal.returns-clause-less
returns-clause-less c =
    let o = c.args.outline.now in
    let old = c.args.self.now in
    elim c.match-target_of.branch [
      | in-Some+in_ok-enter w ↦
          let entered = subst (λ (n : ℕ). Enters o.directories old.table.entries w.in-Some.pair
          (n + 1) old.opened.items w.enter.new.self.opened.items
          old.waiting w.enter.new.self.waiting) w.from.ensures w.in_ok-enter.ensures.entered in
          rw w.self-is (work_less o old.table.entries c.args.place old.opened.items
          w.enter.new.self.opened.items w.in-Some.pair old.waiting w.enter.new.self.waiting entered)
      | in_default w ↦ rw w.self-is (omega arith)
    ]
