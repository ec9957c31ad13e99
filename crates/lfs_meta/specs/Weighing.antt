-- What entries take of a block (own).
use Rattle.std.specs.Prelude.{ℕ, ◌+◌, List, length, sum_by}
use Rattle.lfs_meta.specs.Attribute.{Attributes}
use Rattle.lfs_meta.specs.Entry.{StoredEntry}
use Rattle.lfs_meta.specs.Body.{body_bytes}

-- attributes' tags, of four bytes each, and their values
abbrev pub attributes_weight : Attributes → ℕ
attributes_weight attributes = sum_by (λ a. 4 + length a.1) attributes

-- an entry's tags, of four bytes each, and their data
abbrev pub weight_as_stored : StoredEntry → ℕ
weight_as_stored e = 4 + length e.name + (4 + length (body_bytes e.body)) + attributes_weight e.attributes

abbrev pub weights : List StoredEntry → ℕ
weights es = sum_by weight_as_stored es
