-- The volume of the root alone (own).
use Rattle.std.specs.Prelude.{ℕ, false, [], ◌∷◌}
use Rattle.lfs_meta.specs.Attribute.{Attributes}
use Rattle.lfs_fs.specs.declared.limits.Limits.{Limits}
use Rattle.lfs_fs.specs.Pair.{root}
use Rattle.lfs_fs.specs.Volume.{Volume}

-- the root alone, without entries
abbrev pub empty_volume : ℕ → ℕ → Limits → Attributes → Volume
empty_volume size count limits attributes = record {
  size = size;
  count = count;
  limits = limits;
  attributes = attributes;
  directories = record { first = record { pair = root; entries = []; delta = 0; dirty = false }; more = [] } ∷ [];
}
