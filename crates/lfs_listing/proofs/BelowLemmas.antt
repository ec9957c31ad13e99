-- Paths below others, name by name.
use Rattle.std.proofs.Common.{◌≡◌, ◌≢◌, ℕ, suc, ◌+◌, ◌-◌, ◌<◌, ◌≤◌, Bool, true, false, List, [], ◌∷◌, Bor, Option, Some, None, length, drop}
use Rattle.std.proofs.Common.{take, get_or, refl, ap, sym, ◌∙◌, arith, add-one, drop-cons, length-drop, take_all}
use Rattle.std.specs.Prelude.{bytes_eq, if◌then◌else◌, is_some}
use Rattle.std.proofs.lemmas.List.{drop-map, drop_all, get_or-map, length-map}
use Rattle.std.proofs.lemmas.Slice.Eq.{bytes_eq-Decides}
use Rattle.lfs_meta.specs.Name.{Name}
use Rattle.lfs_fs.specs.Path.{Path}
use Rattle.lfs_command.specs.PathMap.{below}
use Rattle.lfs_listing.specs.Below.{names}

pub name_at : (xs : List (Bor Name)) (i : ℕ) (d : Bor Name) → i < length xs
    → drop i (names xs) ≡ (get_or xs i d).now ∷ drop (i + 1) (names xs)
name_at xs i d within =
    let there : i < length (names xs) = omega (arith, length-map xs (λ (n : Bor Name). n.now)) in
    drop-cons (names xs) i [] there
    ∙ ap (λ (n : Name). n ∷ drop (suc i) (names xs)) (get_or-map (λ (n : Bor Name). n.now) xs i d [] within)
    ∙ ap (λ (k : ℕ). (get_or xs i d).now ∷ drop k (names xs)) (sym (add-one i))

past : (xs : List (Bor Name)) (i : ℕ) → length xs ≤ i → drop i (names xs) ≡ []
past xs i over = drop_all i (names xs) (omega (arith, length-map xs (λ (n : Bor Name). n.now)))

-- a path that has ended
pub ends_early : (i : ℕ) (at path : List (Bor Name)) → i < length at → length path ≤ i → below (drop i (names at)) (drop i (names path)) ≡ None
ends_early i at path within over = rw (name_at at i (record { ref_ptr = (0, 0); now = [] }) within, past path i over) refl

other_bytes : (n m : Name) (b : Bool) → n ≢ m → (b ≡ true → n ≡ m) → b ≡ false
other_bytes n m true other is = absurd (other (is refl))
other_bytes n m false other is = refl

-- names that differ
pub other_name : (i : ℕ) (at path : List (Bor Name)) (c d : Bor Name) → i < length at → i < length path
    → (get_or at i c).now ≢ (get_or path i d).now → below (drop i (names at)) (drop i (names path)) ≡ None
other_name i at path c d here there other =
    let n : Name = (get_or at i c).now in
    let m : Name = (get_or path i d).now in
    rw (name_at at i c here, name_at path i d there)
    (ap (λ (b : Bool). if b then below (drop (i + 1) (names at)) (drop (i + 1) (names path)) else None)
    (other_bytes n m (bytes_eq n m) other (bytes_eq-Decides n m).0))

-- names that are the same
pub same_name : (i : ℕ) (at path : List (Bor Name)) (c d : Bor Name) → i < length at → i < length path
    → (get_or at i c).now ≡ (get_or path i d).now
    → below (drop i (names at)) (drop i (names path)) ≡ below (drop (i + 1) (names at)) (drop (i + 1) (names path))
same_name i at path c d here there same =
    let n : Name = (get_or at i c).now in
    let m : Name = (get_or path i d).now in
    rw (name_at at i c here, name_at path i d there)
    (ap (λ (b : Bool). if b then below (drop (i + 1) (names at)) (drop (i + 1) (names path)) else None)
    ((bytes_eq-Decides n m).1 same))

-- ---- what is left

no_some : {X : Type 0} (b : Bool) (o : Option X) → is_some (if b then o else None) ≡ true → (b ≡ true) × (is_some o ≡ true)
no_some true o is = (refl, is)
no_some false o is = absurd (cc)

pub below_long : (at path : Path) → is_some (below at path) ≡ true → length at ≤ length path
below_long [] path is = omega arith
below_long (n ∷ at) [] is = absurd (cc)
below_long (n ∷ at) (m ∷ path) is = omega (arith, below_long at path (no_some (bytes_eq n m) (below at path) is).1)

pub below_rest : (at path : Path) → is_some (below at path) ≡ true → below at path ≡ Some (drop (length at) path)
below_rest [] path is = refl
below_rest (n ∷ at) [] is = absurd (cc)
below_rest (n ∷ at) (m ∷ path) is =
    let here = no_some (bytes_eq n m) (below at path) is in
    ap (λ (b : Bool). if b then below at path else None) here.0 ∙ below_rest at path here.1

-- the names that are left, as they are read
pub read : (at path rest : List (Bor Name)) → rest ≡ take (length path - length at) (drop (length at) path)
    → drop (length (names at)) (names path) ≡ names rest
read at path rest is =
    ap (λ (n : ℕ). drop n (names path)) (length-map at (λ (n : Bor Name). n.now))
    ∙ drop-map (λ (n : Bor Name). n.now) (length at) path
    ∙ ap names (sym (is ∙ take_all (length path - length at) (drop (length at) path) (omega (arith, length-drop (length at) path))))
