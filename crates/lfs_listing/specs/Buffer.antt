-- What of a text that waits has gone out (own).
use Rattle.std.specs.Prelude.{◌≡◌, ℕ, List, ◌++◌, Option}
use Rattle.std.specs.Io.KnownBytes.{Appends}

-- a beginning of what waited has gone out, and the rest waits
abbrev pub SendsFront : Option (List ℕ) → Option (List ℕ) → List ℕ → List ℕ → Type 0
SendsFront old new waited waits = (gone : List ℕ) × Appends old new gone × (waited ≡ gone ++ waits)
