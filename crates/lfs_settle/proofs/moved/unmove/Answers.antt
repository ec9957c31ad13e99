-- One part more is gone through.
use Rattle.std.proofs.Common.{◌<◌, List, length, Option, ap, sym, ◌∙◌, slice_set, arith}
use Rattle.std.specs.Option.{option_or}
use Rattle.std.proofs.lemmas.List.{take_all}
use Rattle.std.proofs.lemmas.List.Edits.{map_over_more}
use Rattle.lfs_meta.specs.Body.{Pair}
use Rattle.lfs_meta.specs.Entry.{StoredEntry}
use Rattle.lfs_fs.specs.Gathering.{PairPart}
use Rattle.lfs_settle.specs.Ended.{first_moved, moved_in}
use Rattle.lfs_settle.specs.Moved.{unmoved}
use Rattle.lfs_settle.proofs.MovedEntry.{first_moved_more}
use Rattle.lfs_settle.proofs.NextItems.{read_over}
use Rattle.lfs_settle.proofs.moved.unmove.Goals as goal

pub loop-part-preserved : goal.loop-part-preserved
loop-part-preserved c =
    let state = c.args.state.now in
    let parts : List PairPart = c.args.parts.now.items in
    let p : PairPart = c.part-item.result in
    let within : c.loop-part.part-index < length parts =
    omega (arith, c.loop-part-test.true, c.deref_mut-part-items.ensures.len, c.args.parts.now.ok) in
    record {
      left = ap (λ (x : PairPart). slice_set c.loop-part.part-items c.loop-part.part-index x)
          (c.unmove_part.ensures.left ∙ ap (unmoved state) (sym c.part-item.is))
          ∙ map_over_more (unmoved state) parts c.loop-part.part-items c.loop-part.part-index p within c.loop-part.invariant.left
          c.part-item.is;
      moved = c.or-moved.ensures
          ∙ ap (option_or c.loop-part.moved) (c.unmove_part.ensures.moved ∙ ap (moved_in state) (sym c.part-item.is))
          ∙ ap (λ (o : Option (Pair × StoredEntry)). option_or o (moved_in state p)) c.loop-part.invariant.moved
          ∙ first_moved_more state parts c.loop-part.part-index p within
          (read_over (unmoved state) parts c.loop-part.part-items c.loop-part.part-index p within c.loop-part.invariant.left
          c.part-item.is);
    }

pub returns-clause-moved : goal.returns-clause-moved
returns-clause-moved c =
    c.loop-part.invariant.moved ∙ ap (first_moved c.args.state.now) (take_all c.loop-part.part-index c.args.parts.now.items
    (omega (arith, c.loop-part-test.false, c.deref_mut-part-items.ensures.len, c.args.parts.now.ok)))
