-- The tags of a log, one after another (SPEC.md, "Metadata types").
use Rattle.std.specs.Prelude.{◌≡◌, ℕ, ◌+◌, ◌-◌, ◌==◌, true, List, [], ◌∷◌, ◌++◌, length, replicate, Option, Some, None, option_and_then}
use Rattle.std.specs.Prelude.{slice_set, slice_index_or, if◌then◌else◌, insert, remove}
use Rattle.std.specs.List.{Any}
use Rattle.lfs_tag.specs.Tag.{type_of, chunk_of, id_of}
use Rattle.lfs_tag.specs.Commit.{Item}
use Rattle.lfs_meta.specs.declared.action.Action.{Action}
use Rattle.lfs_meta.specs.declared.action.Action.TheVariants.{Create, Delete, SetName, SetBody, SetAttribute, SetTail, SetDelta}
use Rattle.lfs_meta.specs.declared.kind.Kind.{Kind}
use Rattle.lfs_meta.specs.declared.kind.Kind.TheVariants.{File, Dir, Super}
use Rattle.lfs_meta.specs.declared.tail.Tail.{Tail}
use Rattle.lfs_meta.specs.declared.tail.Tail.TheVariants.{End, Soft, Hard}
use Rattle.lfs_meta.specs.Action.{action_of, is_bad, is_deleted, is_null}
use Rattle.lfs_meta.specs.Attribute.{set_attribute, remove_attribute}
use Rattle.lfs_meta.specs.Body.{body_named, struct_word}
use Rattle.lfs_meta.specs.Entry.{RawEntry, blank}
use Rattle.lfs_meta.specs.Part.{RawPart, empty_part}

-- entry i with a change
abbrev pub at_entry : ℕ → (RawEntry → RawEntry) → List RawEntry → List RawEntry
at_entry i f entries = slice_set entries i (f (slice_index_or entries i blank))

-- blank entries at the end, up to i
abbrev pub up_to : ℕ → List RawEntry → List RawEntry
up_to i entries = entries ++ replicate (i + 1 - length entries) blank

-- the kind that a name's type is
abbrev pub kind_named : ℕ → Kind
kind_named kind = if kind == 0x001 then File else if kind == 0x002 then Dir else Super

-- an entry with this name
abbrev pub named_by : Item → RawEntry → RawEntry
named_by t e = record { name = Some (kind_named (type_of t.word), t.content); body = e.body; attributes = e.attributes }

-- an entry with this struct
abbrev pub embodied_by : Item → RawEntry → RawEntry
embodied_by t e = record { name = e.name; body = Some (body_named (type_of t.word) t.content); attributes = e.attributes }

-- an entry with this attribute set, or taken out
abbrev pub attributed_by : Item → RawEntry → RawEntry
attributed_by t e = record {
  name = e.name;
  body = e.body;
  attributes =
      if is_deleted t then remove_attribute (chunk_of t.word) e.attributes
      else set_attribute (chunk_of t.word) t.content e.attributes;
}

-- the tail that a tail's type and data are; two null pointers end the thread
unfoldable pub tail_named : ℕ → List ℕ → Tail
tail_named kind bytes =
    if is_null bytes then End
    else if kind == 0x600 then Soft (struct_word bytes 0) (struct_word bytes 4)
    else Hard (struct_word bytes 0) (struct_word bytes 4)

abbrev pub with_raw_entries : RawPart → List RawEntry → RawPart
with_raw_entries p entries = record { entries = entries; tail = p.tail; delta = p.delta }

-- what a tag of an action leaves
unfoldable pub acted : Action → Item → RawPart → RawPart
acted Create t p = with_raw_entries p (insert p.entries (id_of t.word) blank)
acted Delete t p = with_raw_entries p (remove p.entries (id_of t.word))
acted SetName t p = with_raw_entries p (at_entry (id_of t.word) (named_by t) (up_to (id_of t.word) p.entries))
acted SetBody t p = with_raw_entries p (at_entry (id_of t.word) (embodied_by t) p.entries)
acted SetAttribute t p = with_raw_entries p (at_entry (id_of t.word) (attributed_by t) p.entries)
acted SetTail t p = record { entries = p.entries; tail = tail_named (type_of t.word) t.content; delta = p.delta }
acted SetDelta t p = record { entries = p.entries; tail = p.tail; delta = t.content }

abbrev pub replay_by : Option Action → RawPart → Item → Option RawPart
replay_by None p t = None
replay_by (Some a) p t = if is_bad a t (length p.entries) then None else Some (acted a t p)

-- one more tag, undefined where its type isn't known or it is bad
abbrev pub step : RawPart → Item → Option RawPart
step p t = replay_by (action_of (type_of t.word)) p t

-- tags one after another, from what the ones before them left
unfoldable pub replay_from : RawPart → List Item → Option RawPart
replay_from p [] = Some p
replay_from p (t ∷ ts) = option_and_then (λ q. replay_from q ts) (step p t)

-- the tags of a log
abbrev pub replay : List Item → Option RawPart
replay tags = replay_from empty_part tags

-- some tag has a type that isn't known
abbrev pub HasUnknown : List Item → Type 0
HasUnknown tags = Any (λ t. action_of (type_of t.word) ≡ None) tags

-- a beginning of the tags replays, and the next tag is bad
abbrev pub HasBadFrom : RawPart → List Item → Type 0
HasBadFrom start tags = (front : List Item) × (t : Item) × (after : List Item) × (tags ≡ front ++ t ∷ after)
    × (p : RawPart) × (replay_from start front ≡ Some p) × (a : Action) × (action_of (type_of t.word) ≡ Some a)
    × (is_bad a t (length p.entries) ≡ true)

abbrev pub HasBad : List Item → Type 0
HasBad tags = HasBadFrom empty_part tags
