-- How many blocks each path takes (own).
use Rattle.std.specs.Prelude.{ℕ, ◌&&◌, Bool, true, false, List, [], ◌∷◌, ◌++◌, Option, Some, None, bytes_eq, count_by, flat_map, is_none}
use Rattle.std.specs.Fmt.{decimal}
use Rattle.std.specs.Option.{option_map_or}
use Rattle.lfs_fs.specs.Path.{Path}
use Rattle.lfs_fs.specs.Row.{Row}
use Rattle.lfs_fs.specs.Volume.{Volume}
use Rattle.lfs_json.specs.Line.{line_of}
use Rattle.lfs_json.specs.declared.form.Form.{Form}
use Rattle.lfs_json.specs.declared.form.Form.TheVariants.{Text, Json}
use Rattle.lfs_listing.specs.BlockMap.{user_row, user_words, block_users}
use Rattle.lfs_listing.specs.Listing.{shown_byte}
use Rattle.lfs_json.specs.Blocks.{json_of_sum}

-- whether a path is this one, or below it
abbrev pub is_within : Path → Path → Bool
is_within [] q = true
is_within (n ∷ p) [] = false
is_within (n ∷ p) (m ∷ q) = bytes_eq n m && is_within p q

-- whether a user's path is
abbrev pub uses_within : List Row → Path → Option ℕ → Bool
uses_within rows p u = option_map_or (λ r. is_within p r.path) (user_row rows u) false

-- how many blocks a path takes: those whose user stands there, or below it
abbrev pub taken : Volume → List Row → Path → ℕ
taken v rows p = count_by (uses_within rows p) (block_users v rows)

-- how many blocks nothing takes
abbrev pub untaken : Volume → List Row → ℕ
untaken v rows = count_by is_none (block_users v rows)

-- the line of a row that takes so many blocks
abbrev pub sum_line : Form → Option Row → ℕ → List ℕ
sum_line Text r n = decimal n ++ user_words shown_byte r
sum_line Json r n = line_of (json_of_sum r n)

-- the text: a line for each row, and one for the blocks that nothing takes
abbrev pub block_sums : Form → Volume → List Row → List ℕ
block_sums form v rows =
    flat_map (λ r. sum_line form (Some r) (taken v rows r.path)) rows ++ sum_line form None (untaken v rows)
