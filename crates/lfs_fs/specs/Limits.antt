-- The greatest limits (SPEC.md, "0x0ff superblock"), and those of a new image (own).
use Rattle.std.specs.Prelude.{ℕ}
use Rattle.lfs_fs.specs.declared.limits.Limits.{Limits}

-- the most bytes of a file
abbrev pub most_file : ℕ
most_file = 2147483647

-- the most bytes that one tag holds: of a name, of an attribute, or of a file that stands in its entry
abbrev pub most_held : ℕ
most_held = 1022

-- the limits of a new image
abbrev pub new_limits : Limits
new_limits = record { name = 255; file = most_file; attribute = most_held }
