-- Pairs as numbers, and pairs of entries at which no directory of the thread begins (own).
use Rattle.std.specs.Prelude.{◌≡◌, ◌+◌, ◌*◌, ◌^◌, ◌||◌, ◌&&◌, ◌==◌, ℕ, not, Bool, true, false, List, Some}
use Rattle.std.specs.List.{list_any}
use Rattle.std.specs.BTreeSet.{BTreeSet, contains}
use Rattle.std.specs.Ordering.{nat_cmp}
use Rattle.lfs_fs.specs.Pair.{root, unordered}
use Rattle.lfs_meta.specs.Body.{Pair}
use Rattle.lfs_survey.specs.AllPlaces.{call_at}
use Rattle.lfs_survey.specs.Survey.{tails_behind}
use Rattle.lfs_survey.specs.declared.area.Area.{Area}
use Rattle.lfs_survey.specs.declared.call.Call.{Call}
use Rattle.lfs_survey.specs.declared.place.Place.{Place}
use Rattle.lfs_survey.specs.declared.way.Way.{Way}
use Rattle.lfs_survey.specs.declared.way.Way.TheVariants.{Start, Entry, Next}

-- a pair as one number, which is the same for both orders of its blocks
abbrev pub pair_key : Pair → ℕ
pair_key p = (unordered p).0 * 2 ^ 32 + (unordered p).1

-- some pair has this number
abbrev pub has_key : ℕ → List Pair → Bool
has_key k ps = list_any (λ p. pair_key p == k) ps

-- the numbers of pairs are added to a set
abbrev pub AddsKeys : BTreeSet ℕ → BTreeSet ℕ → List Pair → Type 0
AddsKeys old new ps = (k : ℕ) → contains nat_cmp new k ≡ (contains nat_cmp old k || has_key k ps)

-- a set has the numbers of pairs, and no others
abbrev pub HasKeys : BTreeSet ℕ → List Pair → Type 0
HasKeys keys ps = (k : ℕ) → contains nat_cmp keys k ≡ has_key k ps

-- a pair is come to by an entry
abbrev pub is_of_entry : Way → Bool
is_of_entry Start = false
is_of_entry (Entry from index) = true
is_of_entry (Next from) = false

-- a pair is come to by an entry, and is neither the root's nor one of these
abbrev pub is_unnamed : List Pair → Call → Bool
is_unnamed ps c = is_of_entry c.way && not (pair_key c.pair == pair_key root) && not (has_key (pair_key c.pair) ps)

-- the pair there is come to by an entry, and no directory of the thread begins there
abbrev pub BeginsNothing : List Area → Place → Type 0
BeginsNothing areas p = (c : Call) × (call_at areas p ≡ Some c) × (is_unnamed (tails_behind areas) c ≡ true)
