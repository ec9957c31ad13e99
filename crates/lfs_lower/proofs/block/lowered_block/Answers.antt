-- One commit of what is kept ends within the block.
use Rattle.std.proofs.Common.{◌≡◌, ◌≤◌, length, arith, List, Some, option_map, ap, sym, ◌∙◌, subst, Vec, Global}
use Rattle.lfs_tag.specs.declared.edit.Edit.{Edit}
use Rattle.lfs_tag.specs.Writing.{items, committed_end}
use Rattle.lfs_lower.specs.Spelled.{lowered_tags}
use Rattle.lfs_lower.proofs.KeptTags.{kept_fit}
use Rattle.lfs_lower.proofs.block.lowered_block.Goals as goal

pub block_with-requires : goal.block_with-requires
block_with-requires c =
    let tags : lowered_tags c.args.in_root c.args.block.now ≡ Some (items c.in-Some.edits.items) =
    sym c.in_ok-edits.ensures ∙ ap (option_map (λ (edits : Vec Edit Global). items edits.items)) c.in-Some.is in
    let fit = kept_fit c.args.in_root c.args.block.now (items c.in-Some.edits.items) (λ i. omega (arith, c.type_inv.block i)) c.requires tags in
    subst (λ (es : List Edit). committed_end 4 (items es) ≤ length c.args.block.now) (sym c.deref.ensures.value) fit.fits
