-- How many blocks a command leaves (own).
use Rattle.std.specs.Prelude.{◌≡◌, ◌≤◌, None}
use Rattle.lfs_block.specs.Geometry.{IsGeometry}
use Rattle.lfs_fs.specs.Volume.{Volume}
use Rattle.lfs_command.specs.Command.{Command}
use Rattle.lfs_command.specs.Growth.{count_after}
use Rattle.lfs_command.specs.Verdict.{checks, first_refusal}

-- the law: a command that no check refuses, those on room aside, leaves no fewer blocks, and as many as an image may have
abbrev pub CountsGrow : Type 0
CountsGrow = (v : Volume) (c : Command) → IsGeometry v.size v.count → first_refusal (checks v c) ≡ None
    → IsGeometry v.size (count_after c v.count) × (v.count ≤ count_after c v.count)
