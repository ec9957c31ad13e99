-- Commits of later disk versions in what is read as an image, for which it is refused, unless it is read in a manner that takes it (own).
use Rattle.std.specs.Prelude.{ℕ, ◌||◌, List, Option, Some, None, if◌then◌else◌}
use Rattle.lfs_block.specs.declared.mount_fault.MountFault.TheVariants.{Version}
use Rattle.lfs_request.specs.declared.fault.Fault.{Fault}
use Rattle.lfs_request.specs.declared.fault.Fault.TheVariants.{Mount, Other}
use Rattle.lfs_request.specs.declared.manner.Manner.{Manner}
use Rattle.lfs_request.specs.declared.other_fault.OtherFault.TheVariants as other
use Rattle.lfs_lower.specs.Version.{later_version}
use Rattle.lfs_report.specs.declared.later.Later.{Later}

-- those in an image alone
abbrev pub later_alone : ℕ → List ℕ → Later
later_alone size bytes = record { image = later_version bytes size; other = None }

-- those in an image that another one is made of
abbrev pub later_in_source : ℕ → List ℕ → Later
later_in_source size bytes = record { image = None; other = later_version bytes size }

-- what they are refused with, by the versions of those in the image and in the other one
abbrev pub refusal_of : Option ℕ → Option ℕ → Option Fault
refusal_of (Some version) compared = Some (Mount Version)
refusal_of None (Some version) = Some (Other (other.Mount Version))
refusal_of None None = None

-- the same, unless the state before them is gone on with, or images are read as a device does, which reads them
abbrev pub refused_by : Manner → Later → Option Fault
refused_by manner later = if manner.takes_older || manner.view.by_device then None else refusal_of later.image later.other
