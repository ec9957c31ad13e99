-- What rows take with those below them, which are the deeper ones right behind them (own).
use Rattle.std.specs.Prelude.{◌≡◌, ◌+◌, ◌<◌, ◌≤◌, ℕ, nat_lt, Bool, false, Option, None, Some, List, [], ◌∷◌, ◌++◌, if◌then◌else◌, count_by, drop, length, set, slice_index}
use Rattle.std.specs.Option.{option_map_or}
use Rattle.lfs_fs.specs.Row.{Row}
use Rattle.lfs_json.specs.declared.form.Form.{Form}
use Rattle.lfs_listing.specs.BlockSums.{sum_line}

-- the sum of the counts whose numbers pass, of which the first has this number
abbrev pub weigh : (ℕ → Bool) → ℕ → List ℕ → ℕ
weigh passes number [] = 0
weigh passes number (c ∷ cs) = (if passes number then c else 0) + weigh passes (number + 1) cs

-- the counts with one more block, of a row or of none
abbrev pub counted : List ℕ → Option ℕ → List ℕ
counted counts None = counts
counted counts (Some row) = set counts row (slice_index counts row + 1)

-- so many counts are of the blocks with these rows: whichever rows pass, they have as many blocks
pub record AreCounts (users : List (Option ℕ)) (rows : ℕ) (counts : List ℕ) : Type 0 where
  pub len : length counts ≡ rows
  pub are : (passes : ℕ → Bool) → weigh passes 0 counts ≡ count_by (λ u. option_map_or passes u false) users

-- the sum of the counts of the first rows, as far as they are deeper
abbrev pub deeper_sum : ℕ → List ℕ → List ℕ → ℕ
deeper_sum depth [] counts = 0
deeper_sum depth (d ∷ ds) [] = 0
deeper_sum depth (d ∷ ds) (c ∷ cs) = if nat_lt depth d then c + deeper_sum depth ds cs else 0

-- that of a row and of those below it
abbrev pub depth_sum : List ℕ → List ℕ → ℕ → ℕ
depth_sum depths counts i =
    slice_index counts i + deeper_sum (slice_index depths i) (drop (i + 1) depths) (drop (i + 1) counts)

-- the rows of a place up to another one are deeper than the first of them
abbrev pub AreDeeper : List ℕ → ℕ → ℕ → Type 0
AreDeeper depths i j = (k : ℕ) → i < k → k < j → slice_index depths i < slice_index depths k

-- the next row that isn't below one, or the end
pub record IsNext (depths : List ℕ) (i j : ℕ) : Type 0 where
  pub later : i < j
  pub within : j ≤ length depths
  pub deeper : AreDeeper depths i j
  pub ends : j < length depths → slice_index depths j ≤ slice_index depths i

-- of the rows from one on it is known what they take, and which comes behind what is below them
pub record AreSummed (depths counts sums nexts : List ℕ) (from : ℕ) : Type 0 where
  pub are : (i : ℕ) → from ≤ i → i < length depths → slice_index sums i ≡ depth_sum depths counts i
  pub behind : (i : ℕ) → from ≤ i → i < length depths → IsNext depths i (slice_index nexts i)

-- the lines of rows that take so many blocks, or none where no number is left
abbrev pub sum_lines : Form → List Row → List ℕ → List ℕ
sum_lines form [] sums = []
sum_lines form (r ∷ rs) sums = sum_line form (Some r) (slice_index sums 0) ++ sum_lines form rs (drop 1 sums)
