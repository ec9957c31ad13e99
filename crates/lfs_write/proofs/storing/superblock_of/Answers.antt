-- The outline's attributes rise, and each of them fits.
use Rattle.std.proofs.Common.{ap, sym, ◌∙◌, subst}
use Rattle.std.proofs.lemmas.Result.{IfOk-weaker}
use Rattle.lfs_fs.specs.Sound.{AreAttributes}
use Rattle.lfs_fs.specs.Volume.{Volume}
use Rattle.lfs_fs.specs.Superblock.{superblock_entry}
use Rattle.lfs_law.specs.SuperblockBytes.{superblock_bytes, volume_bytes}
use Rattle.lfs_write.proofs.AttributesRise.{attributes_rise}
use Rattle.lfs_write.proofs.storing.superblock_of.Goals as goal

pub superblock-requires : goal.superblock-requires
superblock-requires c =
    let limit = c.args.outline.now.limits.attribute in
    attributes_rise limit c.in_ok-attributes.attributes.items
    (subst (AreAttributes limit) (sym (c.in_ok-attributes.ensures.same ∙ c.deref.ensures.value
    ∙ ap (λ (v : Volume). v.attributes) c.outline.view_is)) c.requires)
    c.in_ok-attributes.ensures.fit

pub returns : goal.returns
unfolding volume_bytes
returns c =
    let same = c.in_ok-attributes.ensures.same ∙ c.deref.ensures.value ∙ ap (λ (v : Volume). v.attributes) c.outline.view_is in
    IfOk-weaker c.superblock.result _ _ (λ stored is. is
    ∙ ap (λ (v : Volume). superblock_entry (superblock_bytes v.size v.count v.limits) c.in_ok-attributes.attributes.items) c.outline.view_is
    ∙ ap (superblock_entry (volume_bytes c.args.outline.now)) same) c.superblock.ensures
