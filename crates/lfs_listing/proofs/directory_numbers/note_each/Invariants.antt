use Rattle.std.proofs.Common.{take}
use Rattle.lfs_listing.specs.DirectoryNumbers.{AreNumbers}
use Rattle.lfs_listing.proofs.directory_numbers.note_each.Given as goal

-- the numbers are of the directories so far
abbrev pub invariant-loop-number : goal.invariant-loop-number
invariant-loop-number l = AreNumbers (take l.number l.directories) l.numbers
