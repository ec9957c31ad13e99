-- Whether changes name a block.
use Rattle.std.proofs.Common.{◌≡◌, ◌≢◌, ℕ, ◌<◌, ◌≤◌, false, List, length, nat_eq, slice_index_or, Option, Some, None, sym, ap, ◌∙◌}
use Rattle.std.proofs.Common.{inl, inr, ◌⊎◌}
use Rattle.std.specs.Prelude.{is_some}
use Rattle.std.proofs.lemmas.Bool.{cases_eq, eq-eqb, ne_eqb}
use Rattle.lfs_block.specs.Change.{Change, IsRising, change_of}
use Rattle.lfs_block.proofs.ChangeLemmas.{IsPoint, found-at, missing-at, missing-past}

by_number : (cs : List Change) (n i : ℕ) (d : Change) → IsRising cs → IsPoint cs n i → i < length cs
    → ((slice_index_or cs i d).number ≡ n) ⊎ ((slice_index_or cs i d).number ≢ n)
    → nat_eq (slice_index_or cs i d).number n ≡ is_some (change_of n cs)
by_number cs n i d rising point within (inl same) =
    eq-eqb (slice_index_or cs i d).number n same ∙ sym (ap is_some (found-at cs n i d point within same))
by_number cs n i d rising point within (inr other) =
    ne_eqb (slice_index_or cs i d).number n other ∙ sym (ap is_some (missing-at cs n i d rising point within other))

-- the change at the point has the number, where there is one
pub named_at : (cs : List Change) (n i : ℕ) (d : Change) → IsRising cs → IsPoint cs n i → i < length cs
    → nat_eq (slice_index_or cs i d).number n ≡ is_some (change_of n cs)
named_at cs n i d rising point within = by_number cs n i d rising point within (cases_eq (slice_index_or cs i d).number n)

pub unnamed_past : (cs : List Change) (n i : ℕ) (d : Change) → IsPoint cs n i → length cs ≤ i → false ≡ is_some (change_of n cs)
unnamed_past cs n i d point past = sym (ap is_some (missing-past cs n i d point past))

pub none_there : (o : Option Change) → false ≡ is_some o → o ≡ None
none_there None is = cc
none_there (Some c) is = absurd cc
