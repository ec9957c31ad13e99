-- What an entry takes of a block, by what it stands for (own).
use Rattle.std.specs.Prelude.{ℕ, ◌+◌, length}
use Rattle.lfs_meta.specs.Attribute.{Attributes}
use Rattle.lfs_meta.specs.Weighing.{attributes_weight}
use Rattle.lfs_fs.specs.Entry.{Body, Inline, Chain, Directory_at, Entry}

-- a struct's tag of four bytes with its data: a file's bytes, or two words
abbrev pub body_weight : Body → ℕ
body_weight (Inline bytes) = 4 + length bytes
body_weight (Chain blocks bytes) = 12
body_weight (Directory_at pair) = 12

-- the tags of its name, its struct and its attributes with their data
abbrev pub weight : Entry → ℕ
weight e = 4 + length e.name + body_weight e.body + attributes_weight e.attributes

-- the same of the superblock entry: 12 bytes of name, 28 of struct, and the root's attributes
abbrev pub superblock_weight : Attributes → ℕ
superblock_weight attributes = 40 + attributes_weight attributes
