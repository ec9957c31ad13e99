use Rattle.std.proofs.Common.{◌∙◌, ℕ, subst}
use Rattle.lfs_block.specs.ImageFault.{IsNoImage}
use Rattle.lfs_open.proofs.OpenedLemmas.{disk_is}
use Rattle.lfs_open.proofs.ReadLengths.{like_no_fault}
use Rattle.lfs_open.proofs.salvaging.image_like.Goals as goal

pub unreachable-requires : goal.unreachable-requires
unreachable-requires c =
    like_no_fault c.args.image.now.disk c.args.bytes.items c.in_default.field-0.0 c.size.ensures.disk c.requires
    (subst (λ (n : ℕ). IsNoImage c.in_default.field-0.0 n c.args.bytes.items) c.size.ensures.value c.in_default.ensures.cause)

pub returns : goal.returns
returns c =
    let is = c.in-Ok.ensures in
    disk_is c.args.image.now.disk.size c.args.bytes.items c.in-Ok.made.disk is.disk (is.size ∙ c.size.ensures.value) is.bytes
