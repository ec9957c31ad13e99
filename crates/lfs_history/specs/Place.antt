-- Whether there is room in a history for a change more (own).
use Rattle.std.specs.Prelude.{ℕ, ◌<◌, ◌≤◌, Option, Some, None, length}
use Rattle.lfs_journal.specs.Book.{most_changes}
use Rattle.lfs_history.specs.History.{History}

-- how many images of the past may be kept: from 1 to 1,000, or all
abbrev pub MayKeep : Option ℕ → Type 0
MayKeep None = Unit {0}
MayKeep (Some keep) = (1 ≤ keep) × (keep ≤ most_changes)

-- there is room for a change more; where a number is kept there always is
abbrev pub HasPlace : Option ℕ → History → Type 0
HasPlace None h = length h.done < most_changes
HasPlace (Some keep) h = MayKeep (Some keep)

-- there is none
abbrev pub IsFull : Option ℕ → History → Type 0
IsFull None h = most_changes ≤ length h.done
IsFull (Some keep) h = ⊥
