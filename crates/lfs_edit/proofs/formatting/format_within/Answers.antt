-- The root block is filled up with erased bytes.
use Rattle.lfs_edit.proofs.FormatLemmas.{formatted}
use Rattle.lfs_edit.proofs.formatting.format_within.Goals as goal

pub returns-clause-image : goal.returns-clause-image
returns-clause-image c =
    formatted c.args.size c.args.count c.args.limits c.in-Some.root.items c.in_ok-filled.field-0.items c.in_ok-new_superblock.field-0
    c.lone_superblocks_mount.ensures c.made_superblocks_say_their_volume.ensures c.requires.geometry c.requires.limits c.in-Some.ensures.len
    c.in_ok-filled.ensures.bytes c.in_ok-filled.ensures.filled c.in-Some.ensures.bytes c.in-Some.ensures.before_erased
    c.in_ok-new_superblock.ensures
