-- The last name of a path that a list of names is.
use Rattle.std.proofs.Common.{◌≡◌, ℕ, ◌-◌, List, [], ◌∷◌, Option, Some, None, refl, ap, sym, ◌∙◌, arith, length, map, Bor}
use Rattle.std.specs.Prelude.{slice_get}
use Rattle.std.specs.Option.{option_map}
use Rattle.std.proofs.lemmas.Option.{none-some}
use Rattle.lfs_meta.specs.Name.{Name}
use Rattle.lfs_fs.specs.Path.{Path}
use Rattle.lfs_command.specs.Parent.{last_name}
use Rattle.lfs_command.specs.Parent.{split_last, behind_name}

last_later : (n m : Name) (ns : Path) → last_name (n ∷ m ∷ ns) ≡ last_name (m ∷ ns)
last_later n m ns = by (split_last (m ∷ ns)) refl
  where
    some_last : (k : Name) (ks : Path) → split_last (k ∷ ks) ≡ None → ⊥
    some_last k ks none = by_rest (split_last ks) none
      where
        by_rest : (o : Option (Path × Name)) → behind_name k o ≡ None → ⊥
        by_rest None h = absurd (none-some ([], k) (sym h))
        by_rest (Some s) h = absurd (none-some (k ∷ s.0, s.1) (sym h))

    by : (o : Option (Path × Name)) → split_last (m ∷ ns) ≡ o → option_map (λ (s : Path × Name). s.1) (behind_name n o)
        ≡ option_map (λ (s : Path × Name). s.1) o
    by None is = absurd (some_last m ns is)
    by (Some s) is = refl

last_at : (x : Bor Name) (xs : List (Bor Name)) → option_map (λ (b : Bor Name). b.now) (slice_get (x ∷ xs) (length xs))
    ≡ last_name (map (λ (b : Bor Name). b.now) (x ∷ xs))
last_at x [] = refl
last_at x (y ∷ xs) = last_at y xs ∙ sym (last_later x.now y.now (map (λ (b : Bor Name). b.now) xs))

pub last_is : (xs : List (Bor Name)) → option_map (λ (b : Bor Name). b.now) (slice_get xs (length xs - 1))
    ≡ last_name (map (λ (b : Bor Name). b.now) xs)
last_is [] = refl
last_is (x ∷ xs) =
    let less : length (x ∷ xs) - 1 ≡ length xs = omega arith in
    ap (λ (k : ℕ). option_map (λ (b : Bor Name). b.now) (slice_get (x ∷ xs) k)) less ∙ last_at x xs
