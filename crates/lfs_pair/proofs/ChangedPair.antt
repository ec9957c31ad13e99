-- A pair carried to a part by the difference appended.
use Rattle.std.proofs.Common.{◌≡◌, ℕ, ◌≤◌, Bool, true, if◌then◌else◌, List, length, ap, ◌∙◌, Option, Some, None}
use Rattle.std.proofs.Common.{nat_le}
use Rattle.std.specs.Prelude.{option_and_then}
use Rattle.std.specs.List.{AllByRecursion}
use Rattle.std.proofs.lemmas.Bool.{le-leb}
use Rattle.lfs_block.specs.Disk.{Disk}
use Rattle.lfs_tag.specs.Commit.{Item}
use Rattle.lfs_meta.specs.Body.{Pair}
use Rattle.lfs_meta.specs.Fits.{EntryFits, TailFits}
use Rattle.lfs_meta.specs.LiveBlock.{stored_part_of, tags_of}
use Rattle.lfs_meta.specs.Part.{StoredPart}
use Rattle.lfs_meta.specs.Replay.{replay}
use Rattle.lfs_meta.specs.Complete.{IsComplete, complete_part}
use Rattle.lfs_pair.specs.Appending.{IsAppended, IsPartAppended, appended_tags, can_append, change_tags}
use Rattle.lfs_pair.specs.Difference.{Forced, part_between}
use Rattle.lfs_pair.specs.Laws.{PartsBecomeOthers, WrittenPartsAreComplete}
use Rattle.lfs_pair.proofs.ChangeLemmas.{part-becomes}

-- the difference, where ids name all entries
abbrev named_difference : Forced → StoredPart → StoredPart → Option (List Item)
named_difference forced q p = if nat_le (length p.entries) 1023 then Some (part_between forced p q) else None

-- these tags, where they can be appended
abbrev where_room : Disk → Pair → List Item → Option (List Item)
where_room d pair tags = if can_append d pair tags then Some tags else None

difference-is : (d : Disk) (pair : Pair) (forced : Forced) (p q : StoredPart) → stored_part_of d pair ≡ Some p → length p.entries ≤ 1023
    → change_tags d pair forced q ≡ Some (part_between forced p q)
difference-is d pair forced p q held few =
    ap (option_and_then (named_difference forced q)) held
    ∙ ap (λ (b : Bool). if b then Some (part_between forced p q) else None) (le-leb (length p.entries) 1023 few)

appended-are : (d : Disk) (pair : Pair) (forced : Forced) (p q : StoredPart) → stored_part_of d pair ≡ Some p → length p.entries ≤ 1023
    → can_append d pair (part_between forced p q) ≡ true → appended_tags d pair forced q ≡ Some (part_between forced p q)
appended-are d pair forced p q held few room =
    ap (option_and_then (where_room d pair)) (difference-is d pair forced p q held few)
    ∙ ap (λ (b : Bool). if b then Some (part_between forced p q) else None) room

pub part-appended : PartsBecomeOthers → WrittenPartsAreComplete → (d : Disk) (pair : Pair) (forced : Forced) (p q : StoredPart) (n : ℕ)
    (block : List ℕ)
    → stored_part_of d pair ≡ Some p → AllByRecursion EntryFits p.entries → AllByRecursion EntryFits q.entries
    → length p.entries ≤ 1023 → length q.entries ≤ 1023 → TailFits q.tail → length q.delta ≡ 12 → AllByRecursion IsComplete q.entries
    → IsAppended d pair (part_between forced p q) n block → IsPartAppended d pair forced q n block
part-appended law wholes d pair forced p q n block held old_fit new_fit old_few new_few tail delta complete h = record {
  tags = part_between forced p q;
  tags_are = appended-are d pair forced p q held old_few h.room;
  appended_is = h;
  reads_back = ap (λ (o : Option (List Item)). option_and_then complete_part (option_and_then replay o)) h.held
      ∙ part-becomes law wholes forced p q (tags_of d pair) old_fit new_fit old_few new_few tail delta complete held;
}
