-- What of a text has gone out, by what sending it answers (own).
use Rattle.std.specs.Prelude.{ℕ, ◌≤◌, Bool, true, false, List, Option, Some, None, length, take}
use Rattle.std.specs.Io.KnownBytes.{Appends}
use Rattle.lfs_sink.specs.Send.{SendsBeginning}
use Rattle.lfs_listing.specs.declared.unsent.Unsent.{Unsent}
use Rattle.lfs_listing.specs.declared.unsent.Unsent.TheVariants.{Memory, CannotWrite}

-- all of it; a beginning and not all of it, where the sink failed; or a beginning, perhaps all of it, where memory was refused
abbrev pub SendsListing : Option Unsent → Option (List ℕ) → Option (List ℕ) → List ℕ → Type 0
SendsListing None old new text = Appends old new text
SendsListing (Some CannotWrite) old new text = SendsBeginning old new text
SendsListing (Some Memory) old new text = (n : ℕ) × (n ≤ length text) × Appends old new (take n text)

-- whether it is the sink that failed
abbrev pub blames_sink : Option Unsent → Bool
blames_sink None = false
blames_sink (Some CannotWrite) = true
blames_sink (Some Memory) = false
