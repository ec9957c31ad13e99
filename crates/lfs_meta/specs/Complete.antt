-- Entries that are complete: named, with a struct that their kind takes (own: SPEC.md leaves open what others mean).
use Rattle.std.specs.Prelude.{◌≡◌, ◌&&◌, Bool, true, false, List, [], ◌∷◌, map, Option, Some, None, option_map, option_and_then, if◌then◌else◌}
use Rattle.lfs_meta.specs.declared.kind.Kind.{Kind}
use Rattle.lfs_meta.specs.declared.kind.Kind.TheVariants.{File, Dir, Super}
use Rattle.lfs_meta.specs.Attribute.{Attributes}
use Rattle.lfs_meta.specs.Body.{StoredBody, Inline, Chain, Directory_at}
use Rattle.lfs_meta.specs.Entry.{RawEntry, StoredEntry}
use Rattle.lfs_meta.specs.Name.{Name, is_name}
use Rattle.lfs_meta.specs.Part.{RawPart, StoredPart}

-- the structs that a kind takes
abbrev pub kind_takes_body : Kind → StoredBody → Bool
kind_takes_body File (Inline bytes) = true
kind_takes_body File (Chain head size) = true
kind_takes_body File (Directory_at first second) = false
kind_takes_body Dir (Inline bytes) = false
kind_takes_body Dir (Chain head size) = false
kind_takes_body Dir (Directory_at first second) = true
kind_takes_body Super (Inline bytes) = true
kind_takes_body Super (Chain head size) = false
kind_takes_body Super (Directory_at first second) = false

-- the names that a kind takes: a superblock's is judged elsewhere
abbrev pub kind_takes_name : Kind → Name → Bool
kind_takes_name File name = is_name name
kind_takes_name Dir name = is_name name
kind_takes_name Super name = true

-- a struct and a name that the entry's kind takes
pub record IsComplete (e : StoredEntry) : Type 0 where
  pub body : kind_takes_body e.kind e.body ≡ true
  pub name : kind_takes_name e.kind e.name ≡ true

-- no name, no struct, or a struct that the kind doesn't take
abbrev pub IsIncompleteBy : Option (Kind × Name) → Option StoredBody → Type 0
IsIncompleteBy None body = Unit {0}
IsIncompleteBy (Some name) None = Unit {0}
IsIncompleteBy (Some name) (Some body) = kind_takes_body name.0 body ≡ false

abbrev pub IsIncomplete : RawEntry → Type 0
IsIncomplete e = IsIncompleteBy e.name e.body

-- a name that no file or directory may have
abbrev pub IsMisnamedBy : Option (Kind × Name) → Type 0
IsMisnamedBy None = ⊥
IsMisnamedBy (Some name) = kind_takes_name name.0 name.1 ≡ false

abbrev pub IsMisnamed : RawEntry → Type 0
IsMisnamed e = IsMisnamedBy e.name

abbrev pub complete_by : Option (Kind × Name) → Option StoredBody → Attributes → Option StoredEntry
complete_by None body attributes = None
complete_by (Some name) None attributes = None
complete_by (Some name) (Some body) attributes =
    if kind_takes_body name.0 body && kind_takes_name name.0 name.1
    then Some (record { kind = name.0; name = name.1; body = body; attributes = attributes })
    else None

-- the entry, where it is complete
abbrev pub complete : RawEntry → Option StoredEntry
complete e = complete_by e.name e.body e.attributes

-- all entries, where all are complete
abbrev pub all_complete : List RawEntry → Option (List StoredEntry)
all_complete [] = Some []
all_complete (e ∷ es) = option_and_then (λ w. option_map (λ ws. w ∷ ws) (all_complete es)) (complete e)

-- the part, where all its entries are complete
abbrev pub complete_part : RawPart → Option StoredPart
complete_part p = option_map (λ es. record { entries = es; tail = p.tail; delta = p.delta }) (all_complete p.entries)

-- how tags leave a complete entry, and a part of them
abbrev pub raw_of : StoredEntry → RawEntry
raw_of e = record { name = Some (e.kind, e.name); body = Some e.body; attributes = e.attributes }

abbrev pub raw_part : StoredPart → RawPart
raw_part p = record { entries = map raw_of p.entries; tail = p.tail; delta = p.delta }
