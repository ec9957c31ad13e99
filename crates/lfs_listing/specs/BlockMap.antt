-- Which block holds what (own).
use Rattle.std.specs.Prelude.{◌+◌, ◌==◌, ℕ, nat_eq, Bool, List, [], ◌∷◌, ◌++◌, Option, Some, None, if◌then◌else◌, map, flat_map, find, codes, slice_get}
use Rattle.std.specs.Prelude.{option_and_then}
use Rattle.std.specs.Fmt.{decimal}
use Rattle.std.specs.List.{list_any, position_from, range_with_len}
use Rattle.std.specs.Option.{option_eq}
use Rattle.lfs_fs.specs.Pair.{unordered}
use Rattle.lfs_fs.specs.Path.{path_text}
use Rattle.lfs_fs.specs.Entry.{Body, Inline, Chain, Directory_at, leads}
use Rattle.lfs_fs.specs.Directory.{Part, Directory, parts, begins_at}
use Rattle.lfs_fs.specs.Volume.{Volume}
use Rattle.lfs_fs.specs.Row.{Row}
use Rattle.lfs_json.specs.Line.{line_of}
use Rattle.lfs_json.specs.declared.form.Form.{Form}
use Rattle.lfs_json.specs.declared.form.Form.TheVariants.{Text, Json}
use Rattle.lfs_listing.specs.Listing.{shown_byte}
use Rattle.lfs_json.specs.Blocks.{json_of_run}

-- the blocks of a part: those of its pair
abbrev pub blocks_of_part : Part → List ℕ
blocks_of_part p = p.pair.0 ∷ p.pair.1 ∷ []

-- the blocks of a directory: those of its parts
abbrev pub blocks_of_directory : Option Directory → List ℕ
blocks_of_directory None = []
blocks_of_directory (Some d) = flat_map blocks_of_part (parts d)

-- the blocks of a body: those of its directory, or of its file's chain
abbrev pub body_blocks : List Directory → Body → List ℕ
body_blocks ds (Inline bytes) = []
body_blocks ds (Chain blocks bytes) = blocks
body_blocks ds (Directory_at pair) = blocks_of_directory (find (begins_at (unordered pair)) ds)

-- whether a row has a block
abbrev pub has_block : List Directory → ℕ → Row → Bool
has_block ds b r = list_any (λ x. x == b) (body_blocks ds r.entry.body)

-- the number of the first row that has a block, if one does
abbrev pub user : Volume → List Row → ℕ → Option ℕ
user v rows b = position_from (has_block v.directories b) 0 rows

-- those of all blocks
abbrev pub block_users : Volume → List Row → List (Option ℕ)
block_users v rows = map (user v rows) (range_with_len 0 v.count)

-- blocks of one user, from the first to the last one
pub record BlockRun : Type 0 where
  pub first : ℕ
  pub last : ℕ
  pub user : Option ℕ

-- a block put in front of runs, the first of which it lengthens where that is its user's
abbrev pub put_before : ℕ → Option ℕ → List BlockRun → List BlockRun
put_before b u [] = record { first = b; last = b; user = u } ∷ []
put_before b u (run ∷ runs) =
    if option_eq nat_eq run.user u then record { first = b; last = run.last; user = u } ∷ runs
    else record { first = b; last = b; user = u } ∷ run ∷ runs

-- the runs of blocks with these users, of which the first is block b
abbrev pub runs_from : ℕ → List (Option ℕ) → List BlockRun
runs_from b [] = []
runs_from b (u ∷ us) = put_before b u (runs_from (b + 1) us)

-- one number, or two with a hyphen
abbrev pub run_word : ℕ → ℕ → List ℕ
run_word first last = if first == last then decimal first else decimal first ++ codes "-" ++ decimal last

-- what uses blocks, as a line ends with it: a directory or a file with its path, or nothing
abbrev pub user_words : (ℕ → List ℕ) → Option Row → List ℕ
user_words shown None = codes " -\n"
user_words shown (Some r) = (if leads r.entry then codes " d " else codes " f ") ++ flat_map shown (path_text r.path) ++ codes "\n"

-- the row of a user
abbrev pub user_row : List Row → Option ℕ → Option Row
user_row rows u = option_and_then (slice_get rows) u

-- the line of a run, or its object as one line
abbrev pub block_line : Form → List Row → BlockRun → List ℕ
block_line Text rows run = run_word run.first run.last ++ user_words shown_byte (user_row rows run.user)
block_line Json rows run = line_of (json_of_run (user_row rows run.user) run.first run.last)

-- the text: a line for each run
abbrev pub block_map : Form → Volume → List Row → List ℕ
block_map form v rows = flat_map (block_line form rows) (runs_from 0 (block_users v rows))
