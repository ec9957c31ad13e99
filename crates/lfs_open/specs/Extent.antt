-- How many blocks a packed image gets (own).
use Rattle.std.specs.Prelude.{◌≡◌, ◌⊎◌, ℕ, List}
use Rattle.lfs_block.specs.Geometry.{IsBlockSize}
use Rattle.lfs_command.specs.declared.refusal.Refusal.{Refusal}
use Rattle.lfs_fs.specs.declared.limits.Limits.{Limits}
use Rattle.lfs_pack.specs.Least.{IsLeastCount, most_count}
use Rattle.lfs_pack.specs.Packed.{AreRowsOf, Packed}
use Rattle.lfs_pack.specs.Packing.{RefusesPack}
use Rattle.lfs_pack.specs.declared.pack_row.PackRow.{PackRow}
use Rattle.lfs_request.specs.declared.extent.Extent.{Extent}
use Rattle.lfs_request.specs.declared.extent.Extent.TheVariants.{Count, Least}

-- no image of blocks of a size with these limits holds rows: the largest one refuses them
abbrev pub HasNoCount : ℕ → Limits → List PackRow → Type 0
HasNoCount size limits rows =
    (why : Refusal) × ((packed : List Packed) → AreRowsOf rows packed → RefusesPack size (most_count size) limits packed why)

-- an image of blocks of a size that is to hold rows gets so many: those that are said; or the least number that holds the rows, and as many as
-- an image has at most where none holds them
abbrev pub IsExtent : ℕ → Limits → List PackRow → Extent → ℕ → Type 0
IsExtent size limits rows (Count n) count = count ≡ n
IsExtent size limits rows Least count =
    IsBlockSize size → ((packed : List Packed) → AreRowsOf rows packed → IsLeastCount size limits packed count)
    ⊎ (HasNoCount size limits rows × (count ≡ most_count size))
