-- The numbers of faults of steps, and of opening (own).
use Rattle.std.specs.Prelude.{ℕ}
use Rattle.lfs_block.specs.Faults.{mount_fault_number}
use Rattle.lfs_block.specs.declared.mount_fault.MountFault.TheVariants.{Memory}
use Rattle.lfs_command.specs.Faults.{refusal_number}
use Rattle.lfs_journal.specs.declared.journal_fault.JournalFault.{JournalFault}
use Rattle.lfs_journal.specs.declared.journal_fault.JournalFault.TheVariants.{JournalFormat as Unspelled, Memory as Unread}
use Rattle.lfs_history.specs.declared.open_fault.OpenFault.{OpenFault}
use Rattle.lfs_history.specs.declared.open_fault.OpenFault.TheVariants.{Mount, JournalFormat, JournalMismatch, JournalImage}
use Rattle.lfs_history.specs.declared.step_fault.StepFault.{StepFault}
use Rattle.lfs_history.specs.declared.step_fault.StepFault.TheVariants.{Refused, RefusedAt, NothingToUndo, NothingToRedo, JournalFull}

abbrev pub step_fault_number : StepFault → ℕ
step_fault_number (Refused refusal) = refusal_number refusal
step_fault_number (RefusedAt at refusal) = refusal_number refusal
step_fault_number NothingToUndo = 53
step_fault_number NothingToRedo = 54
step_fault_number JournalFull = 55

abbrev pub open_fault_number : OpenFault → ℕ
open_fault_number (Mount fault) = mount_fault_number fault
open_fault_number JournalFormat = 50
open_fault_number JournalMismatch = 51
open_fault_number JournalImage = 52

-- the fault of opening that a fault of reading a journal is
abbrev pub opened_fault : JournalFault → OpenFault
opened_fault Unspelled = JournalFormat
opened_fault Unread = Mount Memory
