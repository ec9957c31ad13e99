-- The directories behind are still to be noted.
use Rattle.std.proofs.Common.{◌≡◌, ◌++◌, drop}
use Rattle.std.specs.Prelude.{flat_map}
use Rattle.lfs_fs.specs.Directory.{parts, thread}
use Rattle.lfs_cut.specs.Overflow.{overflows_of}
use Rattle.lfs_cut.proofs.overflow.overflows_of.Given as goal

abbrev pub invariant-each : goal.invariant-each
invariant-each l =
    l.overflows.items ++ flat_map (λ d. overflows_of l.room.bytes l.room.superblock (parts d)) (drop l.directory-index l.directories)
    ≡ overflows_of l.room.bytes l.room.superblock (thread l.directories)
