-- Pairs are the same or not, and so are names.
use Rattle.std.proofs.Common.{◌≡◌, ◌⊎◌, ℕ, Bool, true, false, refl, ap, ◌∙◌, inl, inr}
use Rattle.std.specs.Prelude.{◌==◌, bytes_eq}
use Rattle.std.specs.Bool.{Decides}
use Rattle.std.proofs.lemmas.Bool.Decides.{Decides-eqb, Decides-and, Decides-like, not_from_Decides}
use Rattle.std.proofs.lemmas.Slice.Eq.{bytes_eq-Decides}
use Rattle.lfs_meta.specs.Name.{Name}
use Rattle.lfs_meta.specs.Body.{Pair}
use Rattle.lfs_fs.specs.Pair.{same_pair}

pub decided : {P : Type 0} (b : Bool) → Decides b P → P ⊎ (P → ⊥)
decided true d = inl (d.0 refl)
decided false d = inr (not_from_Decides false d refl)

pub same_pair_decides : (p q : Pair) → Decides (same_pair p q) (p ≡ q)
same_pair_decides p q =
    Decides-like (same_pair p q) (λ h. ap (λ (b : ℕ). (b, p.1)) h.0 ∙ ap (λ (b : ℕ). (q.0, b)) h.1)
    (λ h. (ap (λ (x : Pair). x.0) h, ap (λ (x : Pair). x.1) h))
    (Decides-and (p.0 == q.0) (p.1 == q.1) (Decides-eqb p.0 q.0) (Decides-eqb p.1 q.1))

pub same_pair_or_not : (p q : Pair) → (p ≡ q) ⊎ (p ≡ q → ⊥)
same_pair_or_not p q = decided (same_pair p q) (same_pair_decides p q)

pub same_name_or_not : (n m : Name) → (n ≡ m) ⊎ (n ≡ m → ⊥)
same_name_or_not n m = decided (bytes_eq n m) (bytes_eq-Decides n m)
