-- Which rows have blocks, found row by row (own).
use Rattle.std.specs.Prelude.{◌+◌, ◌++◌, ℕ, Bool, true, false, List, [], ◌∷◌, Option, Some, None, if◌then◌else◌, fold, is_none, set, slice_index_or}
use Rattle.lfs_fs.specs.Entry.{Body, Inline, Chain, Directory_at}
use Rattle.lfs_fs.specs.Directory.{Directory}
use Rattle.lfs_fs.specs.Row.{Row}
use Rattle.lfs_json.specs.declared.form.Form.{Form}
use Rattle.lfs_json.specs.declared.form.Form.TheVariants.{Text, Json}
use Rattle.lfs_listing.specs.BlockMap.{BlockRun, body_blocks, run_word, user_words}
use Rattle.lfs_listing.specs.Listing.{shown_byte}
use Rattle.lfs_json.specs.Blocks.{run_rest, user_front}

-- a block that is no row's yet becomes that of the row of this number
abbrev pub give : ℕ → List (Option ℕ) → ℕ → List (Option ℕ)
give number users b = if is_none (slice_index_or users b (Some 0)) then set users b (Some number) else users

-- the blocks of a body become those of the row of this number
abbrev pub given_body : List Directory → ℕ → List (Option ℕ) → Body → List (Option ℕ)
given_body ds number users body = fold (give number) users (body_blocks ds body)

-- those of rows, of which the first has this number
abbrev pub given_rows : List Directory → ℕ → List (Option ℕ) → List Row → List (Option ℕ)
given_rows ds number users [] = users
given_rows ds number users (r ∷ rs) = given_rows ds (number + 1) (given_body ds number users r.entry.body) rs

-- a file in its entry has no blocks
abbrev pub may_have_blocks : Body → Bool
may_have_blocks (Inline bytes) = false
may_have_blocks (Chain blocks bytes) = true
may_have_blocks (Directory_at pair) = true

-- what is said of a user: the end of its line, or the front of its object
abbrev pub user_part : Form → Option Row → List ℕ
user_part Text r = user_words shown_byte r
user_part Json r = user_front r

-- that of a row, where it may have blocks
abbrev pub row_part : Form → Row → List ℕ
row_part form r = if may_have_blocks r.entry.body then user_part form (Some r) else []

-- that of a user, among those of rows
abbrev pub part_of_user : Form → List (List ℕ) → Option ℕ → List ℕ
part_of_user form parts None = user_part form None
part_of_user form parts (Some i) = slice_index_or parts i []

-- the line of blocks with it
abbrev pub part_line : Form → ℕ → ℕ → List ℕ → List ℕ
part_line Text first last part = run_word first last ++ part
part_line Json first last part = part ++ run_rest first last

-- that of a run
abbrev pub run_line : Form → (Option ℕ → List ℕ) → BlockRun → List ℕ
run_line form parts run = part_line form run.first run.last (parts run.user)
