-- What is made in a folder of a host, where that is known (own).
use Rattle.std.specs.Prelude.{◌≡◌, ℕ, List, [], ◌∷◌, ◌++◌, Option, Some, None, ⊤}
use Rattle.std.specs.Option.{option_and_then, option_map}

-- a folder of a name, or a file of a name with its bytes; one that was begun has those that were written to it so far
pub data Made : Type 0 where
  FolderMade : (name : List ℕ) → Made
  FileMade : (name bytes : List ℕ) → Made

-- what is known to be made grows by these
abbrev pub Makes : Option (List Made) → Option (List Made) → List Made → Type 0
Makes None new more = ⊤
Makes (Some old) None more = ⊥
Makes (Some old) (Some new) more = new ≡ old ++ more

-- a file with more bytes after its own
abbrev pub filled : List ℕ → Made → Made
filled more (FolderMade name) = FolderMade name
filled more (FileMade name bytes) = FileMade name (bytes ++ more)

-- the last of what was made is such a file
unfoldable pub last_filled : List ℕ → List Made → List Made
last_filled more [] = []
last_filled more (m ∷ []) = filled more m ∷ []
last_filled more (m ∷ n ∷ ms) = m ∷ last_filled more (n ∷ ms)

-- the bytes of a file; none are known of a folder
abbrev pub bytes_made : Made → Option (List ℕ)
bytes_made (FolderMade name) = None
bytes_made (FileMade name bytes) = Some bytes

-- those of the last of what was made
unfoldable pub last_bytes : List Made → Option (List ℕ)
last_bytes [] = None
last_bytes (m ∷ []) = bytes_made m
last_bytes (m ∷ n ∷ ms) = last_bytes (n ∷ ms)

-- a file without its bytes
abbrev pub emptied : Made → Made
emptied (FolderMade name) = FolderMade name
emptied (FileMade name bytes) = FileMade name []

-- the last of what was made is such a file
unfoldable pub last_emptied : List Made → List Made
last_emptied [] = []
last_emptied (m ∷ []) = emptied m ∷ []
last_emptied (m ∷ n ∷ ms) = m ∷ last_emptied (n ∷ ms)

-- what was written to the file that is being made, which is the last of what was made
abbrev pub bytes_filled : Option (List Made) → Option (List ℕ)
bytes_filled made = option_and_then last_bytes made

-- what was made, but for that
abbrev pub made_before : Option (List Made) → Option (List Made)
made_before made = option_map last_emptied made

-- more is written to it
abbrev pub Fills : Option (List Made) → Option (List Made) → List ℕ → Type 0
Fills old new more = new ≡ option_map (last_filled more) old
