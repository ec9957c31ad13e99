-- Where directories stand, by a block of theirs (own).
use Rattle.std.specs.Prelude.{◌≡◌, ◌<◌, ◌≢◌, ℕ, List, Option, Some, None, All, MatchOption, if◌then◌else◌, find, length, slice_get, slice_index_or}
use Rattle.std.specs.Option.{option_and_then, option_flatten}
use Rattle.lfs_meta.specs.Body.{Pair}
use Rattle.lfs_fs.specs.Directory.{Directory, begins_at, key}

-- the lesser block of a directory's first pair
abbrev pub key_block : Directory → ℕ
key_block d = (key d).0

-- a number is that of a directory with this block; none is given where no directory has it
abbrev pub IsNumberAt : List Directory → ℕ → Option ℕ → Type 0
IsNumberAt ds b number = MatchOption number (All (λ d. key_block d ≢ b) ds) (λ i. (d : Directory) × (slice_get ds i ≡ Some d) × (key_block d ≡ b))

-- the numbers are of these directories, one a block
abbrev pub AreNumbers : List Directory → List (Option ℕ) → Type 0
AreNumbers ds numbers = (b : ℕ) → b < length numbers → IsNumberAt ds b (slice_index_or numbers b None)

-- the directory that the numbers give for a pair
abbrev pub directory_numbered : List Directory → List (Option ℕ) → Pair → Option Directory
directory_numbered ds numbers k =
    option_and_then (λ d. if begins_at k d then Some d else None) (option_and_then (slice_get ds) (option_flatten (slice_get numbers k.0)))

-- it is the one that begins there
abbrev pub FindDirectories : List Directory → List (Option ℕ) → Type 0
FindDirectories ds numbers = (k : Pair) → directory_numbered ds numbers k ≡ find (begins_at k) ds
