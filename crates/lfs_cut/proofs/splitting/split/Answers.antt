-- Each entry goes into a run.
use Rattle.std.proofs.Common.{List, length, map, ap, ◌∙◌, subst, arith}
use Rattle.std.specs.Vec.Iter.{into_iter_items}
use Rattle.lfs_meta.specs.Runs.{runs_after}
use Rattle.lfs_fs.specs.Entry.{Entry}
use Rattle.lfs_fs.specs.Weight.{weight}
use Rattle.lfs_cut.specs.Splitting.{IsSplitTo}
use Rattle.lfs_cut.proofs.RunSplits.{all_split}
use Rattle.lfs_cut.proofs.splitting.split.Goals as goal

pub each-preserved : goal.each-preserved
each-preserved c =
    let complete : List (List Entry) = runs_after weight c.args.room c.args.taken c.args.len c.args.entries.items in
    let before = subst (IsSplitTo complete c.args.room (map (λ run. run.items) c.each.splitting.done.items) c.each.splitting.run.items
    c.each.splitting.taken c.each.splitting.len)
    c.in-Some.ensures.steps.0 c.each.invariant.split in
    record {
      counted = omega (arith, ap (λ (x : List Entry). length x) c.in-Some.ensures.steps.0, c.in-Some.ensures.steps.1);
      split = c.in_ok-add.ensures complete (into_iter_items c.next.new.self) before;
    }

pub returns : goal.returns
returns c =
    let complete : List (List Entry) = runs_after weight c.args.room c.args.taken c.args.len c.args.entries.items in
    c.in_ok-next_run.ensures.done
    ∙ all_split complete c.args.room (map (λ run. run.items) c.each.splitting.done.items) c.each.splitting.run.items c.each.splitting.taken
    c.each.splitting.len
    (into_iter_items c.each.entry-iterator) (omega (arith, c.in-None.ensures.steps.0, c.each.invariant.counted)) c.each.invariant.split
