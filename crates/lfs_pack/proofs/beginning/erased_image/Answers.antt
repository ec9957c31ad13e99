-- Bytes that are erased are an image.
use Rattle.std.proofs.Common.{◌*◌, ◌∙◌, refl}
use Rattle.lfs_pack.proofs.ErasedImages.{is_erased, never_fails}
use Rattle.lfs_pack.proofs.beginning.erased_image.Goals as goal

pub unreachable-requires : goal.unreachable-requires
unreachable-requires c =
    never_fails c.args.size c.args.count c.in_ok-bytes.bytes.items c.requires
    (c.in_ok-bytes.ensures.items_if_clones_equal (λ y same. same)) c.in_default.field-0.0 c.in_default.ensures.cause

pub returns : goal.returns
returns c =
    is_erased c.in-Ok.image.disk (c.args.size * c.args.count) c.in-Ok.ensures.disk
    (c.in-Ok.ensures.bytes ∙ c.in_ok-bytes.ensures.items_if_clones_equal (λ y same. same)) c.args.size c.args.count c.in-Ok.ensures.size refl
