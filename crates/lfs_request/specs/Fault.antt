-- The numbers of the program's faults, the status that each ends with, and what a fault of a layer below becomes (own).
use Rattle.std.specs.Prelude.{ℕ, Bool, true, false, ◌&&◌, ◌||◌, ◌==◌, if◌then◌else◌, nat_le, Option, Some, None}
use Rattle.lfs_block.specs.declared.mount_fault.MountFault.{MountFault}
use Rattle.lfs_block.specs.declared.mount_fault.MountFault.TheVariants.{Memory as No_memory}
use Rattle.lfs_block.specs.Faults.{image_fault_number, mount_fault_number}
use Rattle.lfs_command.specs.declared.refusal.Refusal.TheVariants.{Memory}
use Rattle.lfs_command.specs.Faults.{refusal_number}
use Rattle.lfs_history.specs.declared.open_fault.OpenFault.{OpenFault}
use Rattle.lfs_history.specs.declared.open_fault.OpenFault.TheVariants as opening
use Rattle.lfs_history.specs.declared.step_fault.StepFault.{StepFault}
use Rattle.lfs_history.specs.declared.step_fault.StepFault.TheVariants.{Refused as Refused_step, RefusedAt}
use Rattle.lfs_history.specs.Faults.{step_fault_number}
use Rattle.lfs_request.specs.declared.fault.Fault.{Fault}
use Rattle.lfs_request.specs.declared.fault.Fault.TheVariants.{Image, Mount, DamagedCommit, Refused, Step, JournalFormat, JournalMismatch, JournalImage, JournalHasChanges, CannotRead, CannotWrite, HostEntry, HostName, BadHex, BadLine, Other, Differ}
use Rattle.lfs_request.specs.declared.other_fault.OtherFault.{OtherFault}
use Rattle.lfs_request.specs.declared.other_fault.OtherFault.TheVariants as other

-- a fault of an image that another is compared with has the number that it has for any image
abbrev pub other_fault_number : OtherFault → ℕ
other_fault_number (other.Image fault) = image_fault_number fault
other_fault_number (other.Mount fault) = mount_fault_number fault
other_fault_number other.CannotRead = 60

-- each fault by its number; those of the layers below keep theirs
abbrev pub fault_number : Fault → ℕ
fault_number (Image fault) = image_fault_number fault
fault_number (Mount fault) = mount_fault_number fault
fault_number DamagedCommit = 22
fault_number (Refused refusal) = refusal_number refusal
fault_number (Step fault) = step_fault_number fault
fault_number JournalFormat = 50
fault_number JournalMismatch = 51
fault_number JournalImage = 52
fault_number JournalHasChanges = 56
fault_number CannotRead = 60
fault_number CannotWrite = 61
fault_number HostEntry = 62
fault_number HostName = 63
fault_number BadHex = 64
fault_number BadLine = 65
fault_number (Other fault) = other_fault_number fault
fault_number Differ = 0

-- a number lies in a range, both ends included
abbrev pub is_in_range : ℕ → ℕ → ℕ → Bool
is_in_range first last number = nat_le first number && nat_le number last

-- 1: a refused command, images that differ, or a file in its entry that is longer than asked; 2: usage; 3: a refused image or journal;
-- 4: memory, or what the host refused
abbrev pub status_of_number : ℕ → ℕ
status_of_number number =
    if number == 0 || is_in_range 30 43 number || number == 46 || is_in_range 53 56 number then 1
    else (if is_in_range 64 65 number then 2
    else (if is_in_range 1 22 number || is_in_range 50 52 number then 3
    else 4))

-- 0 is done
abbrev pub status_of : Option Fault → ℕ
status_of None = 0
status_of (Some fault) = status_of_number (fault_number fault)

-- want of memory on mounting is spelled as any other want of memory
abbrev pub fault_of_mount : MountFault → Fault
fault_of_mount No_memory = Refused Memory
fault_of_mount fault = Mount fault

-- a refusal of a step, or of one of the commands that are one change, is spelled as the refusal
abbrev pub fault_of_step : StepFault → Fault
fault_of_step (Refused_step refusal) = Refused refusal
fault_of_step (RefusedAt at refusal) = Refused refusal
fault_of_step fault = Step fault

-- a fault of the image is spelled as that of mounting it
abbrev pub fault_of_opening : OpenFault → Fault
fault_of_opening (opening.Mount fault) = fault_of_mount fault
fault_of_opening opening.JournalFormat = JournalFormat
fault_of_opening opening.JournalMismatch = JournalMismatch
fault_of_opening opening.JournalImage = JournalImage

-- the fault is that standard output failed
abbrev pub blames_output : Option Fault → Bool
blames_output (Some CannotWrite) = true
blames_output _ = false
