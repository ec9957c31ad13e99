-- The listing of an image's tree (own).
use Rattle.std.specs.Prelude.{ℕ, ◌-◌, ◌==◌, ◌&&◌, not, nat_le, List, [], ◌∷◌, ◌++◌, if◌then◌else◌, length, replicate, flat_map, codes}
use Rattle.std.specs.Fmt.{decimal}
use Rattle.hex.specs.Hex.{encode_lower}
use Rattle.lfs_fs.specs.Path.{Path, path_text}
use Rattle.lfs_fs.specs.Entry.{Entry, leads, body_length}
use Rattle.lfs_fs.specs.Row.{Row}

-- a byte of a path: a printable one other than the backslash as itself, any other as `\x` and its two digits
abbrev pub shown_byte : ℕ → List ℕ
shown_byte b = if nat_le 32 b && nat_le b 126 && not (b == 92) then b ∷ [] else 92 ∷ 120 ∷ encode_lower (b ∷ [])

-- a word at the right of ten places
abbrev pub in_ten_places : List ℕ → List ℕ
in_ten_places word = replicate (10 - length word) 32 ++ word

-- a file's size; a directory has a dash in its place
abbrev pub size_word : Entry → List ℕ
size_word e = if leads e then codes "-" else decimal (body_length e.body)

-- the line of what stands at a path
abbrev pub entry_line : Path → Entry → List ℕ
entry_line p e = (if leads e then codes "d " else codes "f ") ++ in_ten_places (size_word e) ++ codes " "
    ++ flat_map shown_byte (path_text p) ++ codes "\n"

-- the line of an attribute
abbrev pub attribute_line : ℕ × List ℕ → List ℕ
attribute_line (kind, value) = codes "@ " ++ encode_lower (kind ∷ []) ++ codes " " ++ encode_lower value ++ codes "\n"

-- the lines of a row
abbrev pub row_lines : Row → List ℕ
row_lines r = entry_line r.path r.entry ++ flat_map attribute_line r.entry.attributes

-- the lines of all rows
abbrev pub listing : List Row → List ℕ
listing rows = flat_map row_lines rows
