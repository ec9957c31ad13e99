-- What is ended of what a device left unfinished (own).
use Rattle.std.specs.Prelude.{ℕ, ◌≡◌, ◌&&◌, List, [], ◌∷◌, flat_map, map, slice_get, if◌then◌else◌}
use Rattle.std.specs.Prelude.{Option, Some, None, option_map, option_to_list}
use Rattle.std.specs.Option.{option_or}
use Rattle.lfs_meta.specs.declared.tail.Tail.{Tail}
use Rattle.lfs_meta.specs.declared.tail.Tail.TheVariants.{Soft}
use Rattle.lfs_meta.specs.Body.{Pair}
use Rattle.lfs_meta.specs.Entry.{StoredEntry}
use Rattle.lfs_fs.specs.Gathering.{PairPart, delta_from}
use Rattle.lfs_fs.specs.Reading.{Reading}
use Rattle.lfs_lower.specs.Joining.{parts_held}
use Rattle.lfs_settle.specs.declared.ended.Ended.{Ended}
use Rattle.lfs_settle.specs.InStep.{in_step, in_step_with, pairs_named, same_blocks, stepping, thread_pairs, thread_parts}
use Rattle.lfs_settle.specs.Moved.{is_move, means, moved_entry, unmoved}
use Rattle.lfs_settle.specs.Reached.{groups, unreached_of}
use Rattle.lfs_settle.specs.Settled.{can_settle}

-- ---- the entry that was moved

-- the entry that a move names in a part, with the part's pair, if the move means it
abbrev pub moved_in : ℕ → PairPart → Option (Pair × StoredEntry)
moved_in state p =
    if is_move state && means state p.0 then option_map (λ e. (p.0, e)) (slice_get p.1.entries (moved_entry state)) else None

-- the first one that is named in parts
abbrev pub first_moved : ℕ → List PairPart → Option (Pair × StoredEntry)
first_moved state [] = None
first_moved state (p ∷ ps) = option_or (moved_in state p) (first_moved state ps)

-- the one that the state of parts names in them
abbrev pub moved_of : List PairPart → Option (Pair × StoredEntry)
moved_of ps = first_moved (delta_from ps) ps

-- ---- the directories that are dropped

-- a directory's first pair, with the entries of its parts
abbrev pub as_dropped : List PairPart → List (Pair × List StoredEntry)
as_dropped [] = []
as_dropped (p ∷ ps) = (p.0, flat_map (λ q. q.1.entries) (p ∷ ps)) ∷ []

-- the directories that no path leads to once the moved entry is gone
abbrev pub dropped_of : List PairPart → List (Pair × List StoredEntry)
dropped_of ps = flat_map as_dropped (unreached_of (groups (map (unmoved (delta_from ps)) ps)))

-- ---- the steps

-- two pairs, if they aren't the same one
abbrev pub step_to : Pair → Pair → Option (Pair × Pair)
step_to p q = if same_blocks p q then None else Some (p, q)

-- the pair that a soft tail names, with the pair that an entry names instead
abbrev pub step_of : List Pair → Tail → Option (Pair × Pair)
step_of named (Soft first second) = step_to (first, second) (in_step_with named (first, second))
step_of named _ = None

-- the steps of parts
abbrev pub steps_in : List Pair → List PairPart → List (Pair × Pair)
steps_in named ps = flat_map (λ p. option_to_list (step_of named p.1.tail)) ps

-- those along the thread whose soft tails lead to these pairs
abbrev pub steps_along : List Pair → Reading → List (Pair × Pair)
steps_along named r = steps_in named (parts_held r (thread_pairs (stepping named r)))

-- those along the thread in step
abbrev pub steps_of : Reading → List (Pair × Pair)
steps_of r = steps_along (pairs_named (thread_parts r)) r

-- ---- all of it

-- what settling ends: nothing if the image can't be settled
pub record Ends (r : Reading) (ended : Ended) : Type 0 where
  pub moved : ended.moved ≡ (if can_settle r (in_step r) then moved_of (thread_parts (in_step r)) else None)
  pub dropped : ended.dropped.items ≡ (if can_settle r (in_step r) then dropped_of (thread_parts (in_step r)) else [])
  pub steps : ended.steps.items ≡ (if can_settle r (in_step r) then steps_of r else [])
