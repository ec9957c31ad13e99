-- What a metadata pair holds: entries, a tail and a delta (SPEC.md, "Metadata types").
use Rattle.std.specs.Prelude.{ℕ, List, [], replicate}
use Rattle.lfs_meta.specs.Entry.{RawEntry, StoredEntry}
use Rattle.lfs_meta.specs.declared.tail.Tail.{Tail}
use Rattle.lfs_meta.specs.declared.tail.Tail.TheVariants.{End}

-- as tags leave it. The delta is twelve bytes of the global state (DESIGN.md, "The move problem")
pub record RawPart : Type 0 where
  pub entries : List RawEntry
  pub tail : Tail
  pub delta : List ℕ

-- before the first tag
unfoldable pub empty_part : RawPart
empty_part = record { entries = []; tail = End; delta = replicate 12 0 }

-- all of whose entries are complete
pub record StoredPart : Type 0 where
  pub entries : List StoredEntry
  pub tail : Tail
  pub delta : List ℕ
