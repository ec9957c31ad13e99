-- Where no block has two uses, no two parts have the same pair.
use Rattle.std.proofs.Common.{◌≡◌, ℕ, ◌≤◌, Bool, true, false, cond, [], ◌∷◌, refl, ap, sym, subst, arith}
use Rattle.std.proofs.lemmas.Bool.Decides.{nat_tests}
use Rattle.std.proofs.lemmas.List.Sums.{sum_by-le-sum_by}
use Rattle.lfs_meta.specs.Body.{Pair}
use Rattle.lfs_fs.specs.Pair.{same_pair}
use Rattle.lfs_fs.specs.Directory.{Part, thread}
use Rattle.lfs_fs.specs.Volume.{Volume}
use Rattle.lfs_fs.specs.Uses.{pair_uses, times, uses}
use Rattle.lfs_cut.specs.Chosen.{HasPairsOnce}
use Rattle.lfs_law.proofs.Decided.{same_pair_decides}
use Rattle.lfs_law.proofs.WrittenLemmas.{part_uses, sum_thread}

block_used : (p : Part) (n : ℕ) → n ≡ p.pair.0 → 1 ≤ pair_uses n p
block_used p n is = subst (λ (b : ℕ). 1 ≤ pair_uses b p) (sym is) (first p.pair)
  where
    first : (q : Pair) → 1 ≤ times q.0 (q.0 ∷ q.1 ∷ [])
    first q = grind (arith, nat_tests)

used_by : (p : Part) (k : Pair) (t : Bool) → same_pair p.pair k ≡ t → cond {A = ℕ} t 1 0 ≤ pair_uses k.0 p
used_by p k true is = block_used p k.0 (sym (ap (λ (q : Pair). q.0) ((same_pair_decides p.pair k).0 is)))
used_by p k false is = omega arith

used_by_part : (p : Part) (k : Pair) → cond {A = ℕ} (same_pair p.pair k) 1 0 ≤ part_uses k.0 p
used_by_part p k = omega (arith, used_by p k (same_pair p.pair k) refl)

pub pairs_once : (v : Volume) → ((b : ℕ) → uses b v ≤ 1) → HasPairsOnce v
pairs_once v once k =
    omega (
      arith,
      sum_by-le-sum_by (λ (p : Part). cond {A = ℕ} (same_pair p.pair k) 1 0) (part_uses k.0) (thread v.directories) (λ p. used_by_part p k),
      sum_thread k.0 v.directories,
      once k.0,
    )
