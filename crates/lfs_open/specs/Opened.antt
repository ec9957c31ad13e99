-- An image that a new one is made of, as it is opened (own).
use Rattle.std.specs.Prelude.{ℕ, ◌≡◌, List, Option, length}
use Rattle.lfs_block.specs.Disk.{Disk, IsDisk, image_of}
use Rattle.lfs_block.specs.declared.mount_fault.MountFault.{MountFault}
use Rattle.lfs_fs.specs.Cause.{HasCause}
use Rattle.lfs_fs.specs.Mounted.{MountedValue, IsMountOf}
use Rattle.lfs_fs.specs.Superblock.{IsLimits}
use Rattle.lfs_host.specs.Files.{Files}
use Rattle.lfs_pack.specs.Copies.{AreCopies}
use Rattle.lfs_request.specs.declared.fault.Fault.{Fault}
use Rattle.lfs_request.specs.declared.fault.Fault.TheVariants.{Other}
use Rattle.lfs_request.specs.declared.other_fault.OtherFault.TheVariants as other
use Rattle.lfs_request.specs.declared.source_image.SourceImage.{SourceImage}
use Rattle.lfs_open.specs.Repacking.{ReadsSource}
use Rattle.lfs_open.specs.declared.opened.Opened.{Opened}

-- what is taken of an image that mounts: its length, its limits, and copies of its rows
pub record IsOpenedOn (d : Disk) (o : Opened) : Type 0 where
  pub disk : IsDisk d
  pub mounted : MountedValue
  pub mount : IsMountOf d mounted
  pub len_is : o.len ≡ length d.bytes
  pub limits_are : o.limits ≡ mounted.outline.limits
  pub range : IsLimits o.limits
  pub copies : AreCopies d mounted.rows o.rows.items

-- of bytes that are one
abbrev pub IsOpenedAs : ℕ → List ℕ → Opened → Type 0
IsOpenedAs size bytes o = IsOpenedOn (image_of size bytes) o

-- of a file whose bytes are, as they are read
abbrev pub IsSourceOpened : SourceImage → Option Files → Opened → Type 0
IsSourceOpened source files o = (image : List ℕ) × ReadsSource source files image × IsOpenedAs source.size image o

-- it doesn't mount
abbrev pub RefusesMounting : Disk → Fault → Type 0
RefusesMounting d fault = (cause : MountFault) × (fault ≡ Other (other.Mount cause)) × HasCause d cause
