-- The pairs of the plan are lowered, and its parts are put.
use Rattle.std.proofs.Common.{◌<◌, ◌≤◌, List, map, sym, subst}
use Rattle.std.specs.Prelude.{All}
use Rattle.lfs_block.specs.Disk.{Disk}
use Rattle.lfs_meta.specs.Body.{Pair}
use Rattle.lfs_fs.specs.Front.{pairs_name}
use Rattle.lfs_fs.specs.Gathering.{PairPart}
use Rattle.lfs_lower.specs.Joining.{ArePartsPut, CanPut}
use Rattle.lfs_settle.specs.Lowered.{ArePairsLowered}
use Rattle.lfs_settle.proofs.SettledBlocks.{planned_image, planned_once, planned_within, put_once, still_can}
use Rattle.lfs_settle.proofs.settling.settle.Goals as goal

pub lower_pairs-requires-clause-within : goal.lower_pairs-requires-clause-within
lower_pairs-requires-clause-within g c = λ b some.
    planned_within (g.B.Blocks.disk c.args.image.now) c.in_ok-plan.plan.pairs.items c.in_ok-plan.plan.changed.items c.in_ok-plan.ensures.plan b
    (subst (λ (ps : List Pair). 0 < pairs_name b ps) c.deref.ensures.value some)

pub lower_pairs-requires-clause-apart : goal.lower_pairs-requires-clause-apart
lower_pairs-requires-clause-apart g c = λ b.
    subst (λ (ps : List Pair). pairs_name b ps ≤ 1) (sym c.deref.ensures.value)
    (planned_once (g.B.Blocks.disk c.args.image.now) c.in_ok-plan.plan.pairs.items c.in_ok-plan.plan.changed.items c.in_ok-plan.ensures.plan b)

pub put_parts-requires-clause-can : goal.put_parts-requires-clause-can
put_parts-requires-clause-can g c =
    let m : Disk = (g.B.Blocks.disk c.lower_pairs.new.image) in
    subst (All (CanPut m)) (sym c.deref-2.ensures.value)
    (still_can (g.B.Blocks.disk c.args.image.now) c.in_ok-plan.plan.pairs.items c.in_ok-plan.plan.changed.items c.in_ok-plan.ensures.plan m
    c.in_ok-lower_pairs.ensures.size c.in_ok-lower_pairs.ensures.count)

pub put_parts-requires-clause-apart : goal.put_parts-requires-clause-apart
put_parts-requires-clause-apart g c = λ b.
    subst (λ (ps : List PairPart). pairs_name b (map (λ (p : PairPart). p.0) ps) ≤ 1) (sym c.deref-2.ensures.value)
    (put_once (g.B.Blocks.disk c.args.image.now) c.in_ok-plan.plan.pairs.items c.in_ok-plan.plan.changed.items c.in_ok-plan.ensures.plan b)

pub returns-clause-settled : goal.returns-clause-settled
returns-clause-settled g c =
    let d : Disk = (g.B.Blocks.disk c.args.image.now) in
    let m : Disk = (g.B.Blocks.disk c.lower_pairs.new.image) in
    let pairs : List Pair = c.in_ok-plan.plan.pairs.items in
    let changed : List PairPart = c.in_ok-plan.plan.changed.items in
    let low : ArePairsLowered d m pairs = subst (ArePairsLowered d m) c.deref.ensures.value c.in_ok-lower_pairs.ensures in
    planned_image c.parts_depend_on_their_blocks.ensures d m (g.B.Blocks.disk c.put_parts.new.image)
    pairs changed c.in_ok-plan.ensures.plan low
    (subst (ArePartsPut m (g.B.Blocks.disk c.put_parts.new.image)) c.deref-2.ensures.value c.in_ok-put_parts.ensures)
