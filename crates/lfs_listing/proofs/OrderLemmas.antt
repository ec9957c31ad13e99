-- Paths compared name by name.
use Rattle.std.proofs.Common.{◌≡◌, ◌≢◌, ℕ, ◌+◌, ◌<◌, ◌≤◌, Bool, true, false, not, List, [], ◌∷◌, Bor, length, map, drop, get_or, refl, ap, sym, ◌∙◌, arith}
use Rattle.std.proofs.Common.{add-one, drop-cons, suc}
use Rattle.std.specs.Prelude.{bytes_eq, if◌then◌else◌}
use Rattle.std.specs.declared.cmp.Ordering.TheVariants.{Less, Equal, Greater}
use Rattle.std.proofs.lemmas.List.{drop_all, get_or-map, length-map}
use Rattle.std.proofs.lemmas.Slice.Eq.{bytes_eq-Decides}
use Rattle.lfs_meta.specs.Name.{Name}
use Rattle.lfs_fs.specs.NameOrder.{precedes}
use Rattle.lfs_fs.specs.Path.{Path}
use Rattle.lfs_fs.specs.Row.{path_precedes}
use Rattle.lfs_listing.specs.Order.{name_order, path_order}

-- the names of a path as they are borrowed
abbrev pub borrowed : List (Bor Name) → Path
borrowed xs = map (λ (n : Bor Name). n.now) xs

at : (xs : List (Bor Name)) (i : ℕ) (d : Bor Name) → i < length xs → drop i (borrowed xs) ≡ (get_or xs i d).now ∷ drop (i + 1) (borrowed xs)
at xs i d within =
    let there : i < length (borrowed xs) = omega (arith, length-map xs (λ (n : Bor Name). n.now)) in
    drop-cons (borrowed xs) i [] there
    ∙ ap (λ (n : Name). n ∷ drop (suc i) (borrowed xs)) (get_or-map (λ (n : Bor Name). n.now) xs i d [] within)
    ∙ ap (λ (k : ℕ). (get_or xs i d).now ∷ drop k (borrowed xs)) (sym (add-one i))

past : (xs : List (Bor Name)) (i : ℕ) → length xs ≤ i → drop i (borrowed xs) ≡ []
past xs i over = drop_all i (borrowed xs) (omega (arith, length-map xs (λ (n : Bor Name). n.now)))

-- the longer one comes last
pub longer_last : (i : ℕ) (xs ys : List (Bor Name)) → i < length xs → length ys ≤ i
    → path_order (drop i (borrowed xs)) (drop i (borrowed ys)) ≡ Greater
longer_last i xs ys within over = rw (at xs i (record { ref_ptr = (0, 0); now = [] }) within, past ys i over) refl

-- the shorter one comes first
pub shorter_first : (i : ℕ) (xs ys : List (Bor Name)) → length xs ≤ i → i < length ys
    → path_order (drop i (borrowed xs)) (drop i (borrowed ys)) ≡ Less
shorter_first i xs ys over within = rw (past xs i over, at ys i (record { ref_ptr = (0, 0); now = [] }) within) refl

by_names : (n m : Name) (p q : Path) (these those : Bool) → these ≡ false → those ≡ false
    → (if (if those then path_precedes q p else precedes m n) then Greater
    else (if (if these then path_precedes p q else precedes n m) then Less else Equal))
    ≡ name_order n m
by_names n m p q these those first second = rw (first, second) refl

not_same : (n m : Name) (b : Bool) → n ≢ m → (b ≡ true → n ≡ m) → b ≡ false
not_same n m true other is = absurd (other (is refl))
not_same n m false other is = refl

-- the first names that differ decide
pub names_differ : (i : ℕ) (xs ys : List (Bor Name)) (c d : Bor Name) → i < length xs → i < length ys
    → (get_or xs i c).now ≢ (get_or ys i d).now
    → path_order (drop i (borrowed xs)) (drop i (borrowed ys)) ≡ name_order (get_or xs i c).now (get_or ys i d).now
names_differ i xs ys c d here there other =
    let n : Name = (get_or xs i c).now in
    let m : Name = (get_or ys i d).now in
    rw (at xs i c here, at ys i d there)
    (by_names n m (drop (i + 1) (borrowed xs)) (drop (i + 1) (borrowed ys)) (bytes_eq n m) (bytes_eq m n)
    (not_same n m (bytes_eq n m) other (bytes_eq-Decides n m).0)
    (not_same m n (bytes_eq m n) (λ same. other (sym same)) (bytes_eq-Decides m n).0))

by_rests : (n m : Name) (p q : Path) (these those : Bool) → these ≡ true → those ≡ true
    → (if (if those then path_precedes q p else precedes m n) then Greater
    else (if (if these then path_precedes p q else precedes n m) then Less else Equal))
    ≡ path_order p q
by_rests n m p q these those first second = rw (first, second) refl

-- the rest does where they don't
pub names_agree : (i : ℕ) (xs ys : List (Bor Name)) (c d : Bor Name) → i < length xs → i < length ys
    → (get_or xs i c).now ≡ (get_or ys i d).now
    → path_order (drop i (borrowed xs)) (drop i (borrowed ys)) ≡ path_order (drop (i + 1) (borrowed xs)) (drop (i + 1) (borrowed ys))
names_agree i xs ys c d here there same =
    let n : Name = (get_or xs i c).now in
    let m : Name = (get_or ys i d).now in
    rw (at xs i c here, at ys i d there)
    (by_rests n m (drop (i + 1) (borrowed xs)) (drop (i + 1) (borrowed ys)) (bytes_eq n m) (bytes_eq m n)
    ((bytes_eq-Decides n m).1 same) ((bytes_eq-Decides m n).1 (sym same)))

-- a test that says that two names differ, or don't
pub tested_other : (n m : Name) → true ≡ not (bytes_eq n m) → n ≢ m
tested_other n m test same = let equal : bytes_eq n m ≡ true = (bytes_eq-Decides n m).1 same in absurd (cc (ap not equal))

tested_by : (n m : Name) (b : Bool) → (b ≡ true → n ≡ m) → false ≡ not b → n ≡ m
tested_by n m true is test = is refl
tested_by n m false is test = absurd cc

pub tested_same : (n m : Name) → false ≡ not (bytes_eq n m) → n ≡ m
tested_same n m test = tested_by n m (bytes_eq n m) (bytes_eq-Decides n m).0 test
