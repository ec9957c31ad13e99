-- Laws of what is written.
use Rattle.std.specs.Prelude.{◌≡◌, ◌≤◌, length, Some}
use Rattle.std.specs.List.{AllByRecursion}
use Rattle.lfs_meta.specs.Fits.{EntryFits, TailFits}
use Rattle.lfs_meta.specs.Part.{StoredPart}
use Rattle.lfs_meta.specs.Replay.{replay, replay_from}
use Rattle.lfs_meta.specs.Complete.{IsComplete, raw_part, complete_part}
use Rattle.lfs_pair.specs.Difference.{Forced, part_between}
use Rattle.lfs_pair.specs.Spelling.{part_tags}

-- the tags that a part is written as leave that part
abbrev pub WrittenPartsReplay : Type 0
WrittenPartsReplay = (p : StoredPart) → AllByRecursion EntryFits p.entries → length p.entries ≤ 1022 → TailFits p.tail → length p.delta ≡ 12
    → replay (part_tags p) ≡ Some (raw_part p)

-- what complete entries are written as is complete
abbrev pub WrittenPartsAreComplete : Type 0
WrittenPartsAreComplete = (p : StoredPart) → AllByRecursion IsComplete p.entries → complete_part (raw_part p) ≡ Some p

-- the tags between two parts, replayed behind the first, leave the second. The ids of tags allow 1,023 entries in each.
abbrev pub PartsBecomeOthers : Type 0
PartsBecomeOthers = (forced : Forced) (p q : StoredPart) → AllByRecursion EntryFits p.entries → AllByRecursion EntryFits q.entries
    → length p.entries ≤ 1023 → length q.entries ≤ 1023 → TailFits q.tail → length q.delta ≡ 12
    → replay_from (raw_part p) (part_between forced p q) ≡ Some (raw_part q)
