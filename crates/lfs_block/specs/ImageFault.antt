-- Why bytes are no image of a block size (own).
use Rattle.std.specs.Prelude.{◌≡◌, ◌≢◌, ℕ, ◌/◌, ◌%◌, List, length, ◌⊎◌}
use Rattle.lfs_block.specs.Geometry.{IsBlockSize, IsGeometry}
use Rattle.lfs_block.specs.declared.image_fault.ImageFault.{ImageFault}
use Rattle.lfs_block.specs.declared.image_fault.ImageFault.TheVariants.{ImageLength, BadGeometry}

-- The size is judged first, then whether the length is a multiple of it, then the count and the length.
abbrev pub IsNoImage : ImageFault → ℕ → List ℕ → Type 0
IsNoImage ImageLength size bytes = IsBlockSize size × (length bytes % size ≢ 0)
IsNoImage BadGeometry size bytes = ¬ IsBlockSize size ⊎ ((length bytes % size ≡ 0) × ¬ IsGeometry size (length bytes / size))
