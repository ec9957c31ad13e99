-- The bytes of an image are one.
use Rattle.std.proofs.Common.{◌∙◌, ℕ, subst}
use Rattle.lfs_block.specs.ImageFault.{IsNoImage}
use Rattle.lfs_survey.proofs.CopiedLemmas.{copy_is_image, copy_is_same}
use Rattle.lfs_survey.proofs.all_lowered.image_like.Goals as goal

pub unreachable-requires : goal.unreachable-requires
unreachable-requires c =
    copy_is_image c.args.image.now.disk c.args.bytes.items c.in_default.field-0.0 c.size.ensures.disk c.requires
    (subst (λ (n : ℕ). IsNoImage c.in_default.field-0.0 n c.args.bytes.items) c.size.ensures.value c.in_default.ensures.cause)

pub returns : goal.returns
returns c =
    let is = c.in-Ok.ensures in
    copy_is_same c.args.image.now.disk c.in-Ok.made.disk c.size.ensures.disk is.disk (is.size ∙ c.size.ensures.value) (is.bytes ∙ c.requires)
