-- The lines of what is found in a file (own).
use Rattle.std.specs.Prelude.{ℕ, ◌*◌, ◌/◌, ◌%◌, false, List, [], ◌∷◌, ◌++◌, flat_map, codes, Option, Some, None}
use Rattle.std.specs.Fmt.{decimal, digits}
use Rattle.lfs_block.specs.Faults.{image_fault_number, mount_fault_number}
use Rattle.json.specs.Json.{Json, string}
use Rattle.lfs_json.specs.Line.{line_of}
use Rattle.lfs_json.specs.Object.{Member, integer, object_of}
use Rattle.lfs_json.specs.declared.form.Form.{Form}
use Rattle.lfs_json.specs.declared.form.Form.TheVariants as form
use Rattle.lfs_open.specs.FaultName.{image_fault_name, mount_fault_name}
use Rattle.lfs_find.specs.declared.found.Found.{Found}
use Rattle.lfs_find.specs.declared.place.Place.{Place}
use Rattle.lfs_find.specs.declared.unmounted.Unmounted.{Unmounted}
use Rattle.lfs_find.specs.declared.unmounted.Unmounted.TheVariants.{Image, Mount}

-- ---- as text

-- a fault is said by its number and its name
abbrev pub fault_text : ℕ → List ℕ → List ℕ
fault_text number name = decimal number ++ (codes " " ++ name)

-- what is said of what doesn't mount
abbrev pub unmounted_text : Unmounted → List ℕ
unmounted_text (Image fault) = fault_text (image_fault_number fault) (image_fault_name fault)
unmounted_text (Mount fault) = fault_text (mount_fault_number fault) (mount_fault_name fault)

-- what is said of what is found: that it mounts, or its fault
abbrev pub verdict_text : Option Unmounted → List ℕ
verdict_text None = codes "mounts"
verdict_text (Some fault) = unmounted_text fault

-- where it stands, in hexadecimal digits
abbrev pub at_text : ℕ → List ℕ
at_text at = codes "0x" ++ digits 16 false at

-- a version: the upper half is its major number, and the lower half its minor one
abbrev pub version_text : ℕ → List ℕ
version_text version = decimal (version / 65536) ++ (codes "." ++ decimal (version % 65536))

-- the size and the number of blocks, and the number of bytes
abbrev pub extent_text : ℕ → ℕ → List ℕ
extent_text size count =
    codes "block " ++ (decimal size
    ++ (codes "  count " ++ (decimal count
    ++ (codes "  " ++ (decimal (count * size) ++ codes " bytes")))))

-- a line: where it stands, the version, the extent, and what is said
abbrev pub plain_line : Found → List ℕ
plain_line f =
    at_text f.place.at
    ++ (codes "  version " ++ (version_text f.place.version
    ++ (codes "  " ++ (extent_text f.place.size f.place.count
    ++ (codes "  " ++ (verdict_text f.fault ++ codes "\n"))))))

-- ---- as JSON

-- a fault by its number and its name
abbrev pub fault_members : ℕ → List ℕ → List Member
fault_members number name = (codes "fault", integer number) ∷ (codes "name", string name) ∷ []

-- what doesn't mount
abbrev pub unmounted_members : Unmounted → List Member
unmounted_members (Image fault) = fault_members (image_fault_number fault) (image_fault_name fault)
unmounted_members (Mount fault) = fault_members (mount_fault_number fault) (mount_fault_name fault)

-- what is found: a fault, unless it mounts
abbrev pub verdict_members : Option Unmounted → List Member
verdict_members None = []
verdict_members (Some fault) = unmounted_members fault

-- where it stands, and what it states
abbrev pub place_members : Place → List Member
place_members p =
    (codes "at", integer p.at) ∷ (codes "version", string (version_text p.version)) ∷ (codes "block", integer p.size)
    ∷ (codes "count", integer p.count) ∷ (codes "bytes", integer (p.count * p.size)) ∷ []

-- the object of what is found
abbrev pub json_of_found : Found → Json
json_of_found f = object_of (place_members f.place ++ verdict_members f.fault)

-- ---- in either form

abbrev pub found_line : Form → Found → List ℕ
found_line form.Text f = plain_line f
found_line form.Json f = line_of (json_of_found f)

-- the lines of all
abbrev pub found_text : Form → List Found → List ℕ
found_text shown found = flat_map (found_line shown) found
