-- The struct of the superblock that is written (SPEC.md, "0x0ff superblock").
use Rattle.std.specs.Prelude.{ℕ, List, [], ◌∷◌, flat_map}
use Rattle.std.specs.Int.{w32, to_le_bytes}
use Rattle.lfs_fs.specs.declared.limits.Limits.{Limits}
use Rattle.lfs_fs.specs.Volume.{Volume}

-- version 2.0, block size and count, and the largest name, file and attribute
abbrev pub new_superblock_words : ℕ → ℕ → Limits → List ℕ
new_superblock_words size count limits = 0x00020000 ∷ size ∷ count ∷ limits.name ∷ limits.file ∷ limits.attribute ∷ []

-- its struct
abbrev pub superblock_bytes : ℕ → ℕ → Limits → List ℕ
superblock_bytes size count limits = flat_map (to_le_bytes w32) (new_superblock_words size count limits)

-- a volume's
unfoldable pub volume_bytes : Volume → List ℕ
volume_bytes v = superblock_bytes v.size v.count v.limits
