-- What any entry of the code's types keeps to: lengths below the one that marks a deleted tag, and numbers that have
-- their width (SPEC.md, "Metadata tags").
use Rattle.std.specs.Prelude.{◌≡◌, ℕ, ◌+◌, ◌<◌, ◌≤◌, ◌^◌, List, [], ◌∷◌, length, IfSome, All}
use Rattle.lfs_meta.specs.declared.tail.Tail.{Tail}
use Rattle.lfs_meta.specs.declared.tail.Tail.TheVariants.{End, Soft, Hard}
use Rattle.lfs_meta.specs.Attribute.{Attributes}
use Rattle.lfs_meta.specs.Body.{StoredBody, Inline, Chain, Directory_at}
use Rattle.lfs_meta.specs.Entry.{RawEntry, StoredEntry}
use Rattle.lfs_meta.specs.Part.{RawPart}

-- a kind of one byte, and a value that a tag can hold
pub record AttributeFits (a : ℕ × List ℕ) : Type 0 where
  pub kind : a.0 < 2 ^ 8
  pub value : length a.1 < 1023

-- attributes that fit, whose kinds rise strictly from the least one on
abbrev pub RiseFrom : ℕ → Attributes → Type 0
RiseFrom least [] = Unit {0}
RiseFrom least (a ∷ more) = (least ≤ a.0) × AttributeFits a × RiseFrom (a.0 + 1) more

-- contents that a tag can hold
abbrev pub ContentsFit : StoredBody → Type 0
ContentsFit (Inline bytes) = length bytes < 1023
ContentsFit _ = Unit {0}

-- the same, and numbers that have their width
abbrev pub BodyFits : StoredBody → Type 0
BodyFits (Inline bytes) = length bytes < 1023
BodyFits (Chain head size) = (head < 2 ^ 32) × (size < 2 ^ 32)
BodyFits (Directory_at first second) = (first < 2 ^ 32) × (second < 2 ^ 32)

pub record EntryFits (e : StoredEntry) : Type 0 where
  pub name : length e.name < 1023
  pub body : BodyFits e.body
  pub attributes : RiseFrom 0 e.attributes

-- what the tags of a log leave
pub record RawEntryFits (e : RawEntry) : Type 0 where
  pub name : IfSome e.name (λ n. length n.1 < 1023)
  pub contents : IfSome e.body ContentsFit
  pub attributes : RiseFrom 0 e.attributes

abbrev pub RawPartFits : RawPart → Type 0
RawPartFits p = All RawEntryFits p.entries

-- numbers that have their width, of which not both are null
pub record NumbersFit (first second : ℕ) : Type 0 where
  pub first_fits : first < 2 ^ 32
  pub second_fits : second < 2 ^ 32
  pub some' : first ≡ 0xffffffff → second ≡ 0xffffffff → ⊥

-- a tail that can be written
abbrev pub TailFits : Tail → Type 0
TailFits End = Unit {0}
TailFits (Soft first second) = NumbersFit first second
TailFits (Hard first second) = NumbersFit first second
