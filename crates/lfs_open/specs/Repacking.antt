-- What a new image is made of that holds what another one does (own).
use Rattle.std.specs.Prelude.{◌≡◌, ◌⊎◌, ◌<◌, ◌≤◌, ◌+◌, ◌*◌, ℕ, List, Option, Some, None, length}
use Rattle.lfs_block.specs.Disk.{IsDisk, image_of}
use Rattle.lfs_block.specs.ImageFault.{IsNoImage}
use Rattle.lfs_fs.specs.Cause.{HasCause}
use Rattle.lfs_fs.specs.Mounted.{MountedValue, IsMountOf}
use Rattle.lfs_fs.specs.declared.limits.Limits.{Limits}
use Rattle.lfs_host.specs.Files.{Files, ReadsFrom}
use Rattle.lfs_host.specs.Scene.{Scene}
use Rattle.lfs_pack.specs.Packed.{AreRowsOf}
use Rattle.lfs_pack.specs.declared.pack_row.PackRow.{PackRow}
use Rattle.lfs_pack.specs.Repacked.{all_packed}
use Rattle.lfs_request.specs.SaidLimits.{limits_or}
use Rattle.lfs_request.specs.View.{start_of}
use Rattle.lfs_request.specs.declared.extent.Extent.{Extent}
use Rattle.lfs_request.specs.declared.fault.Fault.{Fault}
use Rattle.lfs_request.specs.declared.fault.Fault.TheVariants.{Other}
use Rattle.lfs_request.specs.declared.other_fault.OtherFault.TheVariants as other
use Rattle.lfs_request.specs.declared.said_limits.SaidLimits.{SaidLimits}
use Rattle.lfs_request.specs.declared.source_image.SourceImage.{SourceImage}
use Rattle.lfs_exchange.specs.Handing.{IsOtherUnread, most_image}
use Rattle.lfs_open.specs.Extent.{IsExtent}
use Rattle.lfs_open.specs.Later.{later_in_source, refused_by}
use Rattle.lfs_open.specs.ReadBy.{IsReadBy}

-- ---- what is read

-- the bytes of its file from its place on, none of which is refused as later
pub record TakesSource (source : SourceImage) (files : Option Files) (bytes : List ℕ) : Type 0 where
  pub there : ReadsFrom files source.file.now (start_of source.manner.view) most_image bytes
  pub not_later : refused_by source.manner (later_in_source source.size bytes) ≡ None

-- these are they, read in its manner
pub record ReadsSource (source : SourceImage) (files : Option Files) (image : List ℕ) : Type 0 where
  pub bytes : List ℕ
  pub takes : TakesSource source files bytes
  pub read : IsReadBy source.manner.view source.size bytes image

-- ---- what is made of it

-- as few blocks of a size as hold so many bytes
abbrev pub IsFilled : ℕ → ℕ → ℕ → Type 0
IsFilled size len count = 0 < size → (len ≤ count * size) × (count * size < len + size)

-- a new image gets so many blocks: as are said, or as the bytes of the other one fill
abbrev pub IsExtentFor : ℕ → ℕ → Limits → List PackRow → Option Extent → ℕ → Type 0
IsExtentFor len size limits rows (Some extent) count = IsExtent size limits rows extent count
IsExtentFor len size limits rows None count = IsFilled size len count

-- the rows of what an image holds are packed, with the limits that are said, and the others of that image
pub record PacksSource (source : SourceImage) (extent : Option Extent) (said : SaidLimits) (most size : ℕ) (files : Option Files) (count : ℕ)
    (limits : Limits) (rows : List PackRow) : Type 0 where
  pub image : List ℕ
  pub reads : ReadsSource source files image
  pub disk : IsDisk (image_of source.size image)
  pub mounted : MountedValue
  pub mount : IsMountOf (image_of source.size image) mounted
  pub rows_are : AreRowsOf rows (all_packed most (image_of source.size image) mounted.rows)
  pub limits_are : limits ≡ limits_or said mounted.outline.limits
  pub count_is : IsExtentFor (length image) size limits rows extent count

-- ---- why nothing is

-- bytes that are read are no image, or one that doesn't mount
abbrev pub JudgesSource : ℕ → List ℕ → Fault → Type 0
JudgesSource size image (Other (other.Image fault)) = IsNoImage fault size image
JudgesSource size image (Other (other.Mount fault)) = IsDisk (image_of size image) × HasCause (image_of size image) fault
JudgesSource size image _ = ⊥

-- why an image that another one is to be made of isn't: it isn't read, or memory is wanting; a commit of a later version is refused; or it is
-- no image, or doesn't mount
abbrev pub RefusesSource : SourceImage → Scene → Scene → Fault → Type 0
RefusesSource source old new why =
    IsOtherUnread new source.file.now why
    ⊎ ((bytes : List ℕ) × ReadsFrom old.files source.file.now (start_of source.manner.view) most_image bytes
    × (refused_by source.manner (later_in_source source.size bytes) ≡ Some why))
    ⊎ ((image : List ℕ) × ReadsSource source old.files image × JudgesSource source.size image why)
