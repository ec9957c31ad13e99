-- Entries, as tags leave them and whole (SPEC.md, "Metadata types").
use Rattle.std.specs.Prelude.{[], Option, None}
use Rattle.lfs_meta.specs.Name.{Name}
use Rattle.lfs_meta.specs.Attribute.{Attributes}
use Rattle.lfs_meta.specs.Body.{StoredBody}
use Rattle.lfs_meta.specs.declared.kind.Kind.{Kind}

-- an entry as tags leave it, whose name or struct may still be missing
pub record RawEntry : Type 0 where
  pub name : Option (Kind × Name)
  pub body : Option StoredBody
  pub attributes : Attributes

-- an entry that was created and nothing more
unfoldable pub blank : RawEntry
blank = record { name = None; body = None; attributes = [] }

-- an entry with a name and a struct
pub record StoredEntry : Type 0 where
  pub kind : Kind
  pub name : Name
  pub body : StoredBody
  pub attributes : Attributes

-- the entry with its attributes changed
abbrev pub entry_with_attributes : (Attributes → Attributes) → StoredEntry → StoredEntry
entry_with_attributes f e = record { kind = e.kind; name = e.name; body = e.body; attributes = f e.attributes }
