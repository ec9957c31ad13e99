-- One more part is gone through.
use Rattle.std.proofs.Common.{Option, ap, sym, ◌∙◌, slice_set, arith}
use Rattle.std.specs.Option.{option_or}
use Rattle.std.proofs.lemmas.List.Edits.{map_over_more}
use Rattle.lfs_meta.specs.Entry.{StoredEntry}
use Rattle.lfs_fs.specs.Gathering.{PairPart}
use Rattle.lfs_lower.specs.Joining.{lowered_in, stripped}
use Rattle.lfs_lower.proofs.JoinedParts.{last_step}
use Rattle.lfs_lower.proofs.joining.take_superblocks.Goals as goal

pub loop-part-preserved : goal.loop-part-preserved
loop-part-preserved c =
    record {
      last = c.or-last.ensures ∙ ap (λ (o : Option StoredEntry). option_or o c.loop-part.last)
          (c.take_superblock.ensures.taken ∙ ap lowered_in (sym c.part-item.is))
          ∙ last_step c.args.parts.now.items c.loop-part.part-items c.loop-part.part-index c.part-item.result c.loop-part.last
          (omega (arith, c.loop-part-test.true, c.deref_mut-part-items.ensures.len, c.args.parts.now.ok))
          c.loop-part.invariant.stripped c.part-item.is c.loop-part.invariant.last;
      stripped =
          ap (λ (p : PairPart). slice_set c.loop-part.part-items c.loop-part.part-index p)
          (c.take_superblock.ensures.stripped ∙ ap stripped (sym c.part-item.is))
          ∙ map_over_more stripped c.args.parts.now.items c.loop-part.part-items c.loop-part.part-index c.part-item.result
          (omega (arith, c.loop-part-test.true, c.deref_mut-part-items.ensures.len, c.args.parts.now.ok))
          c.loop-part.invariant.stripped c.part-item.is;
    }
