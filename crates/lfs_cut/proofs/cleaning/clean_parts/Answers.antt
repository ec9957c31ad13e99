-- One more part is gone through.
use Rattle.std.proofs.Common.{ap, sym, ◌∙◌, slice_set, arith}
use Rattle.std.proofs.lemmas.List.Edits.{map_over_more}
use Rattle.lfs_fs.specs.Directory.{Part}
use Rattle.lfs_command.specs.Clean.{cleaned}
use Rattle.lfs_cut.proofs.cleaning.clean_parts.Goals as goal

pub loop-part-preserved : goal.loop-part-preserved
loop-part-preserved c =
    ap (λ (p : Part). slice_set c.loop-part.part-items c.loop-part.part-index p) (c.clean_part.ensures ∙ ap cleaned (sym c.part-item.is))
    ∙ map_over_more cleaned c.args.parts.now.items c.loop-part.part-items c.loop-part.part-index c.part-item.result
    (omega (arith, c.loop-part-test.true, c.deref_mut-part-items.ensures.len, c.args.parts.now.ok))
    c.loop-part.invariant c.part-item.is
