-- How much a command needs at most (own).
use Rattle.std.specs.Prelude.{◌≡◌, ◌≤◌, ◌<◌, ◌^◌, None, All, length}
use Rattle.lfs_block.specs.Disk.{Disk, IsDisk}
use Rattle.lfs_fs.specs.Directory.{thread}
use Rattle.lfs_fs.specs.Volume.{Volume}
use Rattle.lfs_fs.specs.Sound.{IsSound}
use Rattle.lfs_fs.specs.Superblock.{IsLimits}
use Rattle.lfs_fs.specs.Reading.{reading_of}
use Rattle.lfs_fs.specs.Holds.{Holds}
use Rattle.lfs_command.specs.Command.{Command}
use Rattle.lfs_command.specs.Clean.{IsClean}
use Rattle.lfs_command.specs.Need.{need}
use Rattle.lfs_command.specs.Verdict.{first_refusal, checks}

-- no part has more entries than the largest block has bytes
abbrev pub HasFewEntries : Volume → Type 0
HasFewEntries v = All (λ p. length p.entries ≤ 65536) (thread v.directories)

-- the law: what a command needs that no check refuses, those on room aside, is a number of 32 bits
abbrev pub NeedsAreSmall : Type 0
NeedsAreSmall = (v : Volume) (c : Command) → IsSound v → IsClean v → IsLimits v.limits → HasFewEntries v → first_refusal (checks v c) ≡ None
    → need v c < 2 ^ 32

-- the law: the parts of a volume that an image holds have so few entries
abbrev pub HeldHaveFewEntries : Type 0
HeldHaveFewEntries = (d : Disk) (v : Volume) → IsDisk d → Holds (reading_of d) v → HasFewEntries v
