-- What of a text has gone out (own).
use Rattle.std.specs.Prelude.{ℕ, ◌<◌, Bool, List, Option, length, take, MatchBool}
use Rattle.std.specs.Io.KnownBytes.{Appends}

-- a beginning of the text has gone out, and not all of it
abbrev pub SendsBeginning : Option (List ℕ) → Option (List ℕ) → List ℕ → Type 0
SendsBeginning old new text = (n : ℕ) × (n < length text) × Appends old new (take n text)

-- the whole text has gone out, or a beginning of it
abbrev pub Sends : Bool → Option (List ℕ) → Option (List ℕ) → List ℕ → Type 0
Sends complete old new text = MatchBool complete (Appends old new text) (SendsBeginning old new text)
