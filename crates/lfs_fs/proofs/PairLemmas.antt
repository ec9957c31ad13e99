-- Pairs that are the same.
use Rattle.std.proofs.Common.{◌≡◌, ℕ, true, ap, ◌∙◌, arith}
use Rattle.std.specs.BTreeMap.{is_at}
use Rattle.std.proofs.lemmas.Bool.Decides.{nat_tests}
use Rattle.lfs_meta.specs.Body.{Pair}
use Rattle.lfs_fs.specs.Pair.{same_pair}
use Rattle.lfs_fs.specs.DirectoryTable.{pair_order}

-- what the order takes for equal is the same pair
pub is_at-same : (k j : Pair) → is_at (pair_order k) j ≡ same_pair k j
is_at-same k j = grind (arith, nat_tests)

pub same_pair-symmetric : (k j : Pair) → same_pair k j ≡ same_pair j k
same_pair-symmetric k j = grind (arith, nat_tests)

pub same_pair-refl : (k : Pair) → same_pair k k ≡ true
same_pair-refl k = grind (arith, nat_tests)

first_same : (k j : Pair) → same_pair k j ≡ true → k.0 ≡ j.0
first_same k j h = grind (arith, nat_tests)

second_same : (k j : Pair) → same_pair k j ≡ true → k.1 ≡ j.1
second_same k j h = grind (arith, nat_tests)

pairs_same : (k j : Pair) → k.0 ≡ j.0 → k.1 ≡ j.1 → k ≡ j
pairs_same k j first second = ap (λ (a : ℕ). (a, k.1)) first ∙ ap (λ (b : ℕ). (j.0, b)) second

pub same_pair-is : (k j : Pair) → same_pair k j ≡ true → k ≡ j
same_pair-is k j h = pairs_same k j (first_same k j h) (second_same k j h)
