-- A move that a device began: the entry at the old place is still there (DESIGN.md, "The move problem").
use Rattle.std.specs.Prelude.{ℕ, ◌/◌, ◌%◌, ◌^◌, ◌==◌, ◌&&◌, ◌||◌, count_by, nat_lt, not, Bool, List, [], ◌∷◌, length, zero, suc, if◌then◌else◌}
use Rattle.std.specs.List.{list_all}
use Rattle.lfs_meta.specs.Body.{Pair}
use Rattle.lfs_meta.specs.Entry.{StoredEntry}
use Rattle.lfs_fs.specs.Gathering.{PairPart}
use Rattle.lfs_fs.specs.State.{move_type, orphan_bit}
use Rattle.lfs_settle.specs.InStep.{meets}

-- the state says that an entry is to be deleted, since its new place has it
abbrev pub is_move : ℕ → Bool
is_move state = move_type state == 0x4ff

-- which one of its pair
abbrev pub moved_entry : ℕ → ℕ
moved_entry state = state / 2 ^ 10 % 2 ^ 10

abbrev pub moved_pair : ℕ → Pair
moved_pair state = (state / 2 ^ 32 % 2 ^ 32, state / 2 ^ 64 % 2 ^ 32)

-- a list without the element of a number
abbrev pub without_at : {E : Type 0} → ℕ → List E → List E
without_at n [] = []
without_at zero (e ∷ es) = es
without_at (suc n) (e ∷ es) = e ∷ without_at n es

-- the move may mean this pair
abbrev pub means : ℕ → Pair → Bool
means state p = meets p (moved_pair state)

-- a part, if the move may mean it, has such an entry
abbrev pub has_moved : ℕ → PairPart → Bool
has_moved state p = not (means state p.0) || nat_lt (moved_entry state) (length p.1.entries)

-- the move means one part, which has such an entry
abbrev pub finds_moved : ℕ → List PairPart → Bool
finds_moved state ps = (count_by (λ p. means state p.0) ps == 1) && list_all (λ p. has_moved state p) ps

abbrev pub entries_left : ℕ → Pair → List StoredEntry → List StoredEntry
entries_left state p es = if is_move state && means state p then without_at (moved_entry state) es else es

-- a part without the entry that was moved
abbrev pub unmoved : ℕ → PairPart → PairPart
unmoved state p = (p.0, record { entries = entries_left state p.0 p.1.entries; tail = p.1.tail; delta = p.1.delta })

-- the state is none, or a move that was begun whose entry is there, or says that there may be directories that no path leads to
abbrev pub can_end : ℕ → List PairPart → Bool
can_end state ps = (state == 0) || (is_move state && finds_moved state ps) || ((move_type state == 0) && (orphan_bit state == 1))
