-- The listing of what stands at a path of an image and below (own).
use Rattle.std.specs.Prelude.{◌≡◌, ℕ, Bool, true, false, List}
use Rattle.lfs_block.specs.Disk.{Disk}
use Rattle.lfs_fs.specs.Mounted.{MountedValue, IsMountOf}
use Rattle.lfs_fs.specs.Path.{Path}
use Rattle.lfs_json.specs.declared.form.Form.{Form}
use Rattle.lfs_fs.specs.Row.{Row}
use Rattle.lfs_listing.specs.Below.{digests_at, listing_at}
use Rattle.lfs_request.specs.Standing.{IsPathThere}

-- the listing of rows that stand at a path and below, with the digests of files' contents or without
abbrev pub listing_text : Form → Bool → Disk → Path → List Row → List ℕ
listing_text form true d at rows = digests_at form d at rows
listing_text form false d at rows = listing_at form at rows

-- an image mounts, something stands at a path, and a text lists that and all below, in a form, with digests or without
pub record IsListing (form : Form) (digests : Bool) (d : Disk) (path text : List ℕ) : Type 0 where
  pub mounted : MountedValue
  pub mounts : IsMountOf d mounted
  pub at : Path
  pub there : IsPathThere d mounted path at
  pub text_is : text ≡ listing_text form digests d at mounted.rows
