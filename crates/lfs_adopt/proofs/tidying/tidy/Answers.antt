-- The parts of the plan are put, if there are any.
use Rattle.std.proofs.Common.{◌≡◌, ◌≤◌, [], List, map, sym, subst}
use Rattle.std.specs.Prelude.{All, vec_len}
use Rattle.std.proofs.lemmas.Result.{IfOk-weaker}
use Rattle.lfs_block.specs.Disk.{Disk}
use Rattle.lfs_fs.specs.Front.{pairs_name}
use Rattle.lfs_fs.specs.Gathering.{PairPart}
use Rattle.lfs_lower.specs.Joining.{ArePartsPut, CanPut}
use Rattle.lfs_adopt.proofs.TidiedBlocks.{no_parts, planned_image, put_once, some_parts, untouched_image}
use Rattle.lfs_adopt.proofs.tidying.tidy.Goals as goal

pub returns-then-is_empty : goal.returns-then-is_empty
returns-then-is_empty g c =
    let changed : List PairPart = c.in_ok-changed.changed.items in
    untouched_image c.parts_depend_on_their_blocks.ensures (g.B.Blocks.disk c.args.image.now) changed c.size-fits_the_limits.ensures.disk
    c.in_ok-changed.ensures
    (no_parts changed (vec_len c.in_ok-changed.changed) c.is_empty.result c.in_ok-changed.changed.ok.0 c.is_empty.ensures
    c.if-is_empty.true)

pub put_parts-requires-clause-can : goal.put_parts-requires-clause-can
put_parts-requires-clause-can g c =
    subst (All (CanPut (g.B.Blocks.disk c.args.image.now))) (sym c.deref.ensures.value) c.in_ok-changed.ensures.can

pub put_parts-requires-clause-apart : goal.put_parts-requires-clause-apart
put_parts-requires-clause-apart g c = λ b.
    subst (λ (ps : List PairPart). pairs_name b (map (λ (p : PairPart). p.0) ps) ≤ 1) (sym c.deref.ensures.value)
    (put_once (g.B.Blocks.disk c.args.image.now) c.in_ok-changed.changed.items c.in_ok-changed.ensures b)

pub returns : goal.returns
returns g c =
    let d : Disk = (g.B.Blocks.disk c.args.image.now) in
    let changed : List PairPart = c.in_ok-changed.changed.items in
    let some : changed ≡ [] → ⊥ =
    some_parts changed (vec_len c.in_ok-changed.changed) c.is_empty.result c.in_ok-changed.changed.ok.0 c.is_empty.ensures
    c.if-is_empty.false in
    IfOk-weaker c.put_parts.result _ _ (λ done put.
    planned_image c.parts_depend_on_their_blocks.ensures d (g.B.Blocks.disk c.put_parts.new.image) changed c.in_ok-changed.ensures
    (subst (ArePartsPut d (g.B.Blocks.disk c.put_parts.new.image)) c.deref.ensures.value put) (λ none. absurd (some none))) c.put_parts.ensures
