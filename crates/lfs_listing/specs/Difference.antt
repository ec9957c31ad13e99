-- What differs between the trees of two images (own).
use Rattle.std.specs.Prelude.{ℕ, ◌==◌, ◌&&◌, not, Bool, true, false, List, [], ◌∷◌, ◌++◌, if◌then◌else◌, bytes_eq, flat_map, codes}
use Rattle.lfs_block.specs.Disk.{Disk}
use Rattle.lfs_meta.specs.Attribute.{Attributes}
use Rattle.lfs_fs.specs.Entry.{Entry, leads}
use Rattle.lfs_fs.specs.Tree.{Node, File, Dir}
use Rattle.lfs_fs.specs.Row.{Row, path_precedes}
use Rattle.lfs_fs.specs.RowShown.{shown_node}
use Rattle.lfs_json.specs.Line.{line_of}
use Rattle.lfs_json.specs.declared.form.Form.{Form}
use Rattle.lfs_json.specs.declared.form.Form.TheVariants.{Text, Json}
use Rattle.lfs_listing.specs.Listing.{attribute_line, entry_line}
use Rattle.lfs_listing.specs.declared.mark.Mark.{Mark}
use Rattle.lfs_listing.specs.declared.mark.Mark.TheVariants.{Removed, Added}
use Rattle.lfs_json.specs.Rows.{json_of_change, json_of_contents}

-- ---- whether two entries show the same

-- the same kind with the same value
abbrev pub same_attribute : ℕ × List ℕ → ℕ × List ℕ → Bool
same_attribute (kind, value) (other, content) = kind == other && bytes_eq value content

-- the same attributes in the same order
abbrev pub same_attributes : Attributes → Attributes → Bool
same_attributes [] [] = true
same_attributes (a ∷ more) (b ∷ others) = same_attribute a b && same_attributes more others
same_attributes (a ∷ more) [] = false
same_attributes [] (b ∷ others) = false

-- two files with the same bytes or two directories, with the same attributes
abbrev pub same_node : Node → Node → Bool
same_node (File bytes a) (File others b) = bytes_eq bytes others && same_attributes a b
same_node (Dir a) (Dir b) = same_attributes a b
same_node (File bytes a) (Dir b) = false
same_node (Dir a) (File others b) = false

-- whether two entries are the same on their disks: the contents of a chain are read there
abbrev pub shows_same : Disk → Entry → Disk → Entry → Bool
shows_same d a e b = same_node (shown_node d a) (shown_node e b)

-- ---- lines

-- the lines of a row, each with a mark in front
abbrev pub marked_lines : List ℕ → Row → List ℕ
marked_lines mark r = mark ++ entry_line r.path r.entry ++ flat_map (λ a. mark ++ attribute_line a) r.entry.attributes

-- what stands in front of the lines of a row that only one image has
abbrev pub mark_text : Mark → List ℕ
mark_text Removed = codes "- "
mark_text Added = codes "+ "

-- what its object says
abbrev pub mark_word : Mark → List ℕ
mark_word Removed = codes "removed"
mark_word Added = codes "added"

-- a row that only one image has: its lines, or its object as one line
abbrev pub marked_text : Form → Mark → Row → List ℕ
marked_text Text mark r = marked_lines (mark_text mark) r
marked_text Json mark r = line_of (json_of_change (mark_word mark) r.path r.entry)

-- of a row that only the first has
abbrev pub removed : Form → Row → List ℕ
removed form r = marked_text form Removed r

-- of a row that only the second has
abbrev pub added : Form → Row → List ℕ
added form r = marked_text form Added r

-- the line of a row with a mark in front, without its attributes
abbrev pub marked_line : List ℕ → Row → List ℕ
marked_line mark r = mark ++ entry_line r.path r.entry

-- a file of which only the contents differ
abbrev pub rewritten : Form → Row → List ℕ
rewritten Text r = marked_line (codes "~ ") r
rewritten Json r = line_of (json_of_contents (codes "contents") r.path r.entry)

-- two files with the same attributes: only their contents can differ
abbrev pub are_alike : Entry → Entry → Bool
are_alike a b = not (leads a) && (not (leads b) && same_attributes a.attributes b.attributes)

-- what differs at a path that both have: nothing, or of files their contents alone, which the second's line says
abbrev pub changed_text : Form → Disk → Row → Disk → Row → List ℕ
changed_text form d a e b =
    if shows_same d a.entry e b.entry then []
    else (if are_alike a.entry b.entry then rewritten form b else removed form a ++ added form b)

-- whether a text has any byte
abbrev pub is_some_text : List ℕ → Bool
is_some_text [] = false
is_some_text (byte ∷ bytes) = true

-- ---- rows

-- what differs from a row of the first on, where `rest` says what differs behind it: in the order of paths
abbrev pub difference_at : Form → Disk → Disk → Row → (List Row → List ℕ) → List Row → List ℕ
difference_at form d e a rest [] = removed form a ++ rest []
difference_at form d e a rest (b ∷ bs) =
    if path_precedes b.path a.path then added form b ++ difference_at form d e a rest bs
    else (if path_precedes a.path b.path then removed form a ++ rest (b ∷ bs) else changed_text form d a e b ++ rest bs)

-- what differs between the rows of two disks: nothing where both show the same at the same paths
abbrev pub difference : Form → Disk → List Row → Disk → List Row → List ℕ
difference form d [] e bs = flat_map (added form) bs
difference form d (a ∷ left) e bs = difference_at form d e a (difference form d left e) bs
