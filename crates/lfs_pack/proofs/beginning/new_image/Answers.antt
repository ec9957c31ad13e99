-- The image is erased, and the outline is that of the root alone.
use Rattle.std.proofs.Common.{[], subst, sym}
use Rattle.lfs_fs.specs.Formatted.{empty_volume}
use Rattle.lfs_fs.specs.Sound.{IsSound}
use Rattle.lfs_pack.specs.Unwritten.{IsReadyToWrite}
use Rattle.lfs_pack.proofs.beginning.new_image.Goals as goal

begun : (c : goal.After-outline-2-1) → IsReadyToWrite c.in_ok-image.image.disk (empty_volume c.args.size c.args.count c.args.limits [])
begun c =
    c.unwritten_images_go_on.ensures.begin c.args.size c.args.count c.in_ok-image.image.disk c.args.limits c.in_ok-image.ensures
    c.requires.limits

pub used_blocks-requires : goal.used_blocks-requires
used_blocks-requires c = subst IsSound (sym c.in_ok-outline.ensures) (begun c).holdable.sound

pub returns : goal.returns
returns c = record {
  unwritten =
      c.unwritten_images_go_on.ensures.begin c.args.size c.args.count c.in_ok-image.image.disk c.args.limits c.in_ok-image.ensures
      c.requires.limits;
  outline = c.in_ok-outline.ensures;
  table = c.in_ok-used.ensures.table;
}
