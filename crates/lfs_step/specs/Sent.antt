-- What of a file's contents has gone out (own).
use Rattle.std.specs.Prelude.{ℕ, Bool, false, not, List, Option, Result, Ok, Err}
use Rattle.std.specs.Io.KnownBytes.{Keeps}
use Rattle.lfs_block.specs.Disk.{Disk}
use Rattle.lfs_command.specs.declared.refusal.Refusal.{Refusal}
use Rattle.lfs_sink.specs.Send.{Sends}
use Rattle.lfs_step.specs.Contents.{IsContents}

-- all contents at a path, or a beginning of them; with a refusal nothing
abbrev pub SendsContents : Result Bool Refusal → Disk → List ℕ → Option (List ℕ) → Option (List ℕ) → Type 0
SendsContents (Ok complete) disk path old new = (bytes : List ℕ) × IsContents disk path bytes × Sends complete old new bytes
SendsContents (Err refusal) disk path old new = Keeps old new

-- the sink failed where not all went out
abbrev pub has_failed : Result Bool Refusal → Bool
has_failed (Ok complete) = not complete
has_failed (Err refusal) = false
