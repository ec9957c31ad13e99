-- Each entry goes into the last run or begins another one.
use Rattle.std.proofs.Common.{ℕ, length, drop, sym, ◌∙◌, subst, arith, ◌+◌, length-drop}
use Rattle.lfs_meta.specs.Runs.{runs_after}
use Rattle.lfs_fs.specs.Weight.{weight}
use Rattle.lfs_fs.proofs.ItemLemmas.{drop_at}
use Rattle.lfs_law.proofs.RunCounts.{AreBegun, takes_one, begins_one, all_begun}
use Rattle.lfs_cut.proofs.runs.run_count.Goals as goal
use Rattle.lfs_cut.proofs.runs.run_count.Goals.{then-not-run_takes, else-not-run_takes}

pub each-preserved : goal.each-preserved
each-preserved c =
    let complete : ℕ = length (runs_after weight c.args.room c.args.taken c.args.len c.args.entries.now) in
    let before = subst (AreBegun complete c.args.room c.each.entry-index c.each.count c.each.taken c.each.len)
    (drop_at c.args.entries.now c.each.entry-index c.entry-item.result c.each-test.true c.entry-item.is) c.each.invariant in
    elim c.if-not-run_takes.branch [
      | then-not-run_takes w ↦
          (rw (w.count-is, w.taken-is, w.len-is) (begins_one complete c.args.room c.each.entry-index c.each.count c.each.taken c.each.len
          c.weight-next.result c.entry-item.result
          (drop (c.each.entry-index + 1) c.args.entries.now) c.weight-next.ensures.value c.weight-next.ensures.small
          (sym c.run_takes.ensures ∙ w.if-not-run_takes.true) before))
      | else-not-run_takes w ↦
          (rw (w.count-is, w.taken-is, w.len-is) (takes_one complete c.args.room c.each.entry-index c.each.count c.each.taken c.each.len
          c.weight-next.result c.entry-item.result
          (drop (c.each.entry-index + 1) c.args.entries.now) c.requires.room c.weight-next.ensures.value
          (sym c.run_takes.ensures ∙ w.if-not-run_takes.false) before))
    ]

pub returns : goal.returns
returns c =
    all_begun (length (runs_after weight c.args.room c.args.taken c.args.len c.args.entries.now)) c.args.room c.each.entry-index
    c.each.count c.each.taken c.each.len
    (drop c.each.entry-index c.args.entries.now) (omega (arith, length-drop c.each.entry-index c.args.entries.now)) c.each.invariant
