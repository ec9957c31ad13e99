-- The six words of a superblock, judged (own).
use Rattle.std.specs.Prelude.{◌≡◌, ◌≢◌, ◌⊎◌, ℕ, List, []}
use Rattle.lfs_block.specs.declared.mount_fault.MountFault.{MountFault}
use Rattle.lfs_block.specs.declared.mount_fault.MountFault.TheVariants.{Version, Geometry, Limits}
use Rattle.lfs_fs.specs.Superblock.{IsLimits, header_of, word_at}

-- the version and the geometry are those of this image, and the limits are within their ranges
pub record IsHeader (size count : ℕ) (bytes : List ℕ) : Type 0 where
  pub version : word_at bytes 0 ≡ 0x00020000
  pub size_is : word_at bytes 1 ≡ size
  pub count_is : word_at bytes 2 ≡ count
  pub limits : IsLimits (header_of bytes []).limits

-- why they aren't
abbrev pub HeaderCause : MountFault → ℕ → ℕ → List ℕ → Type 0
HeaderCause Version size count bytes = word_at bytes 0 ≢ 0x00020000
HeaderCause Geometry size count bytes = (word_at bytes 1 ≢ size) ⊎ (word_at bytes 2 ≢ count)
HeaderCause Limits size count bytes = ¬ IsLimits (header_of bytes []).limits
HeaderCause _ size count bytes = ⊥
