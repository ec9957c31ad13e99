-- The parts behind are still to be noted.
use Rattle.std.proofs.Common.{◌≡◌, ◌++◌, drop}
use Rattle.lfs_cut.specs.Overflow.{overflows_of}
use Rattle.lfs_cut.proofs.overflow.note_all.Given as goal

abbrev pub invariant-each : goal.invariant-each
invariant-each l =
    l.overflows.items ++ overflows_of l.room.bytes l.room.superblock (drop l.part-index l.parts)
    ≡ l.fn.overflows.items ++ overflows_of l.room.bytes l.room.superblock l.parts
