-- The test of a name says whether it is one.
use Rattle.std.proofs.Common.{◌≡◌, ◌≢◌, ◌↔◌, ℕ, ◌==◌, ◌&&◌, not, Bool, true, [], ◌∷◌, length, nat_lt, refl}
use Rattle.std.specs.Prelude.{All, bytes_eq}
use Rattle.std.specs.Bool.{Decides}
use Rattle.std.specs.List.{list_all}
use Rattle.std.proofs.lemmas.Bool.Decides.{Decides-and, Decides-by_and, Decides-not, Decides-eqb, Decides-ltb, Decides-like}
use Rattle.std.proofs.lemmas.Slice.Eq.{bytes_eq-Decides}
use Rattle.lfs_meta.specs.Name.{Name, IsName, is_name}

abbrev is_no_slash : ℕ → Bool
is_no_slash b = not (b == 47)

without_slash : (n : Name) → Decides (list_all is_no_slash n) (All (λ b. b ≢ 47) n)
without_slash n = Decides-by_and is_no_slash (λ b. b ≢ 47) (list_all is_no_slash) (λ b. Decides-not (b == 47) (Decides-eqb b 47)) refl
    (λ _ _. refl) n

is_other : (m n : Name) → Decides (not (bytes_eq n m)) (n ≢ m)
is_other m n = Decides-not (bytes_eq n m) (bytes_eq-Decides n m)

pub is_name-decides : (n : Name) → (is_name n ≡ true) ↔ IsName n
is_name-decides n =
    Decides-like (is_name n)
    (λ p. record { some' = p.0.0.0; no_slash = p.0.0.1; no_dot = p.0.1; no_dots = p.1 })
    (λ h. (((h.some', h.no_slash), h.no_dot), h.no_dots))
    (Decides-and (nat_lt 0 (length n) && list_all is_no_slash n && not (bytes_eq n (46 ∷ []))) (not (bytes_eq n (46 ∷ 46 ∷ [])))
    (Decides-and (nat_lt 0 (length n) && list_all is_no_slash n) (not (bytes_eq n (46 ∷ [])))
    (Decides-and (nat_lt 0 (length n)) (list_all is_no_slash n) (Decides-ltb 0 (length n)) (without_slash n))
    (is_other (46 ∷ []) n))
    (is_other (46 ∷ 46 ∷ []) n))
