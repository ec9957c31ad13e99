-- An entry linked into the part where its name belongs, by the place of that part.
use Rattle.std.proofs.Common.{◌≡◌, ℕ, ◌-◌, ◌<◌, suc, Bool, true, false, List, [], ◌∷◌, Option, Some, None, length, refl, ap, ◌∙◌, arith, ◌⊎◌, inl, inr}
use Rattle.std.specs.Prelude.{if◌then◌else◌, nat_lt, slice_set, slice_index_or}
use Rattle.std.specs.List.{position, position_or_len}
use Rattle.std.specs.Option.{unwrap_or}
use Rattle.std.proofs.lemmas.List.Quantifiers.{position-Some}
use Rattle.lfs_fs.specs.Entry.{Entry}
use Rattle.lfs_fs.specs.Directory.{Part, parts}
use Rattle.lfs_command.specs.EntryEdit.{place}
use Rattle.lfs_command.specs.DirectoryEdit.{has_greater, touch, behind, link_parts}

-- the first place that passes, else the last one
abbrev pub first_or_last : {X : Type 0} → (X → Bool) → List X → ℕ
first_or_last t xs = unwrap_or (position t xs) (length xs - 1)

-- it is one of them
pub one_of_them : {X : Type 0} (t : X → Bool) (xs : List X) → 0 < length xs → first_or_last t xs < length xs
one_of_them t [] some = absurd (omega (arith, some))
one_of_them t (x ∷ xs) some = by (position t (x ∷ xs)) refl
  where
    by : (o : Option ℕ) → position t (x ∷ xs) ≡ o → unwrap_or o (length (x ∷ xs) - 1) < length (x ∷ xs)
    by None is = omega arith
    by (Some i) is = (position-Some t (x ∷ xs) i x is).0

alone : {X : Type 0} (t : X → Bool) (x : X) → first_or_last t (x ∷ []) ≡ 0
alone t x = by (t x) refl
  where
    by : (b : Bool) → t x ≡ b → first_or_last t (x ∷ []) ≡ 0
    by true is = rw is refl
    by false is = rw is refl

here : {X : Type 0} (t : X → Bool) (x : X) (xs : List X) → t x ≡ true → first_or_last t (x ∷ xs) ≡ 0
here t x xs is = grind (arith, is)

later : {X : Type 0} (t : X → Bool) (x y : X) (ys : List X) → t x ≡ false → first_or_last t (x ∷ y ∷ ys) ≡ suc (first_or_last t (y ∷ ys))
later {X} t x y ys is = by (nat_lt (position_or_len t (y ∷ ys)) (length (y ∷ ys))) refl
  where
    all : List X
    all = y ∷ ys

    by : (b : Bool) → nat_lt (position_or_len t all) (length all) ≡ b → first_or_last t (x ∷ y ∷ ys) ≡ suc (first_or_last t (y ∷ ys))
    by true less = grind (arith, is, less)
    by false less = grind (arith, is, less)

pub linked_at : (e : Entry) (p : Part) (ps : List Part) (d : Part) → slice_set (p ∷ ps) (first_or_last (has_greater e.name) (p ∷ ps))
    (touch true (place e) (slice_index_or (p ∷ ps) (first_or_last (has_greater e.name) (p ∷ ps)) d)) ≡ parts (link_parts e p ps)
unfolding link_parts
linked_at e p [] d = ap (λ (i : ℕ). slice_set (p ∷ []) i (touch true (place e) (slice_index_or (p ∷ []) i d)))
    (alone (has_greater e.name) p)
linked_at e p (q ∷ qs) d = by (has_greater e.name p) refl (linked_at e q qs d)
  where
    set_at : List Part → ℕ → List Part
    set_at xs i = slice_set xs i (touch true (place e) (slice_index_or xs i d))

    by : (b : Bool) → has_greater e.name p ≡ b → set_at (q ∷ qs) (first_or_last (has_greater e.name) (q ∷ qs)) ≡ parts (link_parts e q qs)
        → set_at (p ∷ q ∷ qs) (first_or_last (has_greater e.name) (p ∷ q ∷ qs))
        ≡ parts (if b then record { first = touch true (place e) p; more = q ∷ qs } else behind p (link_parts e q qs))
    by true is more = ap (set_at (p ∷ q ∷ qs)) (here (has_greater e.name) p (q ∷ qs) is)
    by false is more = ap (set_at (p ∷ q ∷ qs)) (later (has_greater e.name) p q qs is) ∙ ap (λ (ps : List Part). p ∷ ps) more

-- the same of what was found, taken and written back
pub linked_by : (e : Entry) (p : Part) (ps all : List Part) (i : ℕ) (old new : Part) → all ≡ p ∷ ps
    → i ≡ first_or_last (has_greater e.name) all
    → old ≡ slice_index_or all i old → new ≡ touch true (place e) old → slice_set all i new ≡ parts (link_parts e p ps)
linked_by e p ps all i old new are at taken written =
    ap (slice_set all i) (written ∙ ap (touch true (place e)) taken)
    ∙ ap (λ (k : ℕ). slice_set all k (touch true (place e) (slice_index_or all k old))) at
    ∙ ap (λ (xs : List Part). slice_set xs (first_or_last (has_greater e.name) xs)
    (touch true (place e) (slice_index_or xs (first_or_last (has_greater e.name) xs) old))) are
    ∙ linked_at e p ps old

-- ---- the first part, and the others

-- it belongs into the first part: there is no other, or it has a greater name
pub linked_first : (e : Entry) (p : Part) (ps : List Part) → (length ps ≡ 0) ⊎ (has_greater e.name p ≡ true)
    → record { first = touch true (place e) p; more = ps } ≡ link_parts e p ps
unfolding link_parts
linked_first e p [] so = refl
linked_first e p (q ∷ qs) (inl none) = absurd (omega (arith, none))
linked_first e p (q ∷ qs) (inr has) = rw has refl

-- it belongs into one of the others
pub linked_later : (e : Entry) (p : Part) (ps new : List Part) → 0 < length ps → has_greater e.name p ≡ false
    → ((q : Part) (qs : List Part) → ps ≡ q ∷ qs → new ≡ parts (link_parts e q qs)) → record { first = p; more = new } ≡ link_parts e p ps
unfolding link_parts
linked_later e p [] new some has linked = absurd (omega (arith, some))
linked_later e p (q ∷ qs) new some has linked = rw has (ap (λ (more : List Part). record { first = p; more = more }) (linked q qs refl))
