-- The room is that of the outline, and only directories in front have parts that are set.
use Rattle.std.proofs.Common.{List, ap, take, ◌∙◌}
use Rattle.std.specs.List.{list_any}
use Rattle.lfs_fs.specs.Directory.{Directory}
use Rattle.lfs_fs.specs.Volume.{Volume}
use Rattle.lfs_cut.specs.SetParts.{has_too_large_by}
use Rattle.lfs_cut.proofs.FrontLemmas.{large_in_front}
use Rattle.lfs_cut.proofs.SetPartLemmas.{any_large_part}
use Rattle.lfs_cut.proofs.set_parts.has_too_large.Goals as goal

pub returns : goal.returns
returns c =
    c.any_directory_too_large.ensures
    ∙ ap (λ (ds : List Directory). list_any (has_too_large_by c.block_room.result.bytes c.block_room.result.superblock) ds)
    (c.in_front.ensures ∙ ap (take c.args.front) (c.deref.ensures.value ∙ ap (λ (v : Volume). v.directories) c.outline.view_is))
    ∙ large_in_front c.block_room.result.bytes c.block_room.result.superblock c.args.front c.args.outline.now.directories c.requires.front
    ∙ any_large_part c.args.outline.now c.block_room.result.bytes c.block_room.result.superblock c.block_room.ensures.bytes
    c.block_room.ensures.superblock
