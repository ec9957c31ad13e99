-- Paths that differ in a name, and lists of paths that rise.
use Rattle.std.proofs.Common.{◌≡◌, Bool, true, false, List, [], ◌∷◌, ◌++◌, refl, ap, ◌∙◌}
use Rattle.std.specs.Prelude.{bytes_eq, if◌then◌else◌}
use Rattle.std.specs.List.{All}
use Rattle.std.proofs.lemmas.Slice.Eq.{bytes_eq-Decides}
use Rattle.std.proofs.lemmas.List.Elements.{All-nil, All-cons, All-head, All-tail, All-append, All-weaker}
use Rattle.lfs_meta.specs.Name.{Name}
use Rattle.lfs_fs.specs.NameOrder.{precedes}
use Rattle.lfs_fs.specs.Path.{Path}
use Rattle.lfs_fs.specs.Row.{path_precedes}
use Rattle.lfs_fs.specs.Ordered.{apart, AreApart, PathsRise}
use Rattle.lfs_fs.proofs.NameOrderLemmas.{precedes_irreflexive}
use Rattle.lfs_fs.proofs.PathOrderLemmas.{path_transitive}

-- ---- names

pub same_bytes : (n : Name) → bytes_eq n n ≡ true
same_bytes n = (bytes_eq-Decides n n).1 refl

differ_by : (b : Bool) (n m : Name) → (b ≡ true → n ≡ m) → precedes n m ≡ true → b ≡ false
differ_by true n m is before = let same : n ≡ m = is refl in cc (before, same, precedes_irreflexive n)
differ_by false n m is before = refl

-- a name isn't the one that it precedes
pub other_bytes : (n m : Name) → precedes n m ≡ true → bytes_eq n m ≡ false
other_bytes n m before = differ_by (bytes_eq n m) n m (bytes_eq-Decides n m).0 before

-- ---- paths

precedes_by : (b : Bool) (n m : Name) (p q : Path) → (apart p q ≡ true → path_precedes p q ≡ true)
    → (if b then apart p q else precedes n m) ≡ true → (if b then path_precedes p q else precedes n m) ≡ true
precedes_by true n m p q rest h = rest h
precedes_by false n m p q rest h = h

pub apart_precedes : (p q : Path) → apart p q ≡ true → path_precedes p q ≡ true
apart_precedes [] q h = cc
apart_precedes (n ∷ p) [] h = cc
apart_precedes (n ∷ p) (m ∷ q) h = precedes_by (bytes_eq n m) n m p q (apart_precedes p q) h

below_by : (b : Bool) (n m : Name) (p x q : Path) → (apart p q ≡ true → apart (p ++ x) q ≡ true)
    → (if b then apart p q else precedes n m) ≡ true → (if b then apart (p ++ x) q else precedes n m) ≡ true
below_by true n m p x q rest h = rest h
below_by false n m p x q rest h = h

-- what stands below one is apart from what that one is apart from
pub apart_below : (p x q : Path) → apart p q ≡ true → apart (p ++ x) q ≡ true
apart_below [] x q h = cc
apart_below (n ∷ p) x [] h = cc
apart_below (n ∷ p) x (m ∷ q) h = below_by (bytes_eq n m) n m p x q (apart_below p x q) h

-- two names below one path
pub apart_names : (p : Path) (n m : Name) → precedes n m ≡ true → apart (p ++ n ∷ []) (p ++ m ∷ []) ≡ true
apart_names [] n m before = ap (λ (b : Bool). if b then apart [] [] else precedes n m) (other_bytes n m before) ∙ before
apart_names (a ∷ p) n m before = ap (λ (b : Bool). if b then apart (p ++ n ∷ []) (p ++ m ∷ []) else precedes a a) (same_bytes a)
    ∙ apart_names p n m before

-- a path comes before what stands below it
pub below_precedes : (p : Path) (n : Name) → path_precedes p (p ++ n ∷ []) ≡ true
below_precedes [] n = refl
below_precedes (a ∷ p) n = ap (λ (b : Bool). if b then path_precedes p (p ++ n ∷ []) else precedes a a) (same_bytes a) ∙ below_precedes p n

-- ---- lists of paths

-- what holds of all of a list holds of both its parts
pub All-both : {X : Type 0} (P : X → Type 0) (xs ys : List X) → All P (xs ++ ys) → All P xs × All P ys
All-both P [] ys h = (All-nil P, h)
All-both P (x ∷ xs) ys h =
    let rest = All-both P xs ys (All-tail P x (xs ++ ys) h) in
    (All-cons P x xs (All-head P x (xs ++ ys) h) rest.0, rest.1)

-- each path of a list is apart from each of another
abbrev pub ApartFrom : List Path → List Path → Type 0
ApartFrom ps qs = All (λ p. All (λ q. apart p q ≡ true) qs) ps

pub apart-append : (ps qs : List Path) → AreApart ps → AreApart qs → ApartFrom ps qs → AreApart (ps ++ qs)
apart-append [] qs h k between = k
apart-append (p ∷ ps) qs h k between =
    let P : Path → Type 0 = λ (x : Path). All (λ (q : Path). apart x q ≡ true) qs in
    (All-append (λ (q : Path). apart p q ≡ true) ps qs h.0 (All-head P p ps between), apart-append ps qs h.1 k (All-tail P p ps between))

-- paths that are apart rise
pub rise_apart : (ps : List Path) → AreApart ps → PathsRise ps
rise_apart [] h = tt
rise_apart (p ∷ ps) h = (
  All-weaker (λ (q : Path). apart p q ≡ true) (λ (q : Path). path_precedes p q ≡ true)
      (λ q before. apart_precedes p q before) ps h.0,
  rise_apart ps h.1,
)

-- paths put in behind one, which comes before them
pub rise-insert : (ps : List Path) (p : Path) (more qs : List Path) → PathsRise (ps ++ p ∷ qs) → PathsRise (more ++ qs)
    → All (λ q. path_precedes p q ≡ true) more → PathsRise (ps ++ p ∷ (more ++ qs))
rise-insert [] p more qs h k after = (All-append (λ (q : Path). path_precedes p q ≡ true) more qs after h.0, k)
rise-insert (a ∷ ps) p more qs h k after =
    let P : Path → Type 0 = λ (q : Path). path_precedes a q ≡ true in
    let both = All-both P ps (p ∷ qs) h.0 in
    let first = All-head P p qs both.1 in
    let later : All P more = All-weaker (λ (q : Path). path_precedes p q ≡ true) P
    (λ q before. path_transitive a p q first before) more after in (
      All-append P ps (p ∷ (more ++ qs)) both.0 (All-cons P p (more ++ qs) first (All-append P more qs later (All-tail P p qs both.1))),
      rise-insert ps p more qs h.1 k after,
    )
