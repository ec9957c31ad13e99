-- The tags that carry an entry's attributes to others, at a place in the middle of entries.
use Rattle.std.proofs.Common.{◌≡◌, ℕ, ◌+◌, ◌<◌, ◌≤◌, ◌==◌, ◌&&◌, not, Bool, true, false, cond, if◌then◌else◌, List, [], ◌∷◌, ◌++◌}
use Rattle.std.proofs.Common.{length, map, refl, ap, sym, ◌∙◌, arith, subst, Option, Some, None, append_assoc, nat_lt, inl, inr}
use Rattle.std.specs.Prelude.{bytes_eq}
use Rattle.std.specs.List.{AllByRecursion}
use Rattle.std.proofs.lemmas.Bool.{cases_Bool, cases_order, and_parts}
use Rattle.std.proofs.lemmas.Bool.Decides.{nat_tests}
use Rattle.std.proofs.lemmas.Slice.Eq.{bytes_eq-Decides}
use Rattle.lfs_tag.specs.Commit.{Item}
use Rattle.lfs_meta.specs.Attribute.{Attributes, put_by, set_attribute, remove_attribute}
use Rattle.lfs_meta.specs.Entry.{RawEntry}
use Rattle.lfs_meta.specs.Fits.{AttributeFits, RiseFrom}
use Rattle.lfs_meta.specs.Part.{RawPart}
use Rattle.lfs_meta.specs.Replay.{replay_from, step}
use Rattle.lfs_meta.proofs.AttributeLemmas.{set_lesser, set_same, set_greater}
use Rattle.lfs_meta.proofs.ReplayLemmas.{replay_from-cons}
use Rattle.lfs_pair.specs.Difference.{is_forced, gone_item, value_tags, attributes_between}
use Rattle.lfs_pair.specs.Spelling.{attribute_item}
use Rattle.lfs_pair.proofs.PlaceLemmas.{Place, at_place, with_values}
use Rattle.lfs_pair.proofs.PlaceTags.{set-step, gone-step}

-- all of the attributes are of lesser kinds
abbrev pub Below : ℕ → Attributes → Type 0
Below kind xs = AllByRecursion (λ (a : ℕ × List ℕ). a.0 < kind) xs

below-more : (least more : ℕ) (xs : Attributes) → least ≤ more → Below least xs → Below more xs
below-more least more [] le below = tt
below-more least more (a ∷ xs) le below = (omega (arith, below.0), below-more least more xs le below.1)

below-push : (kind : ℕ) (xs : Attributes) (a : ℕ × List ℕ) → Below kind xs → a.0 < kind → Below kind (xs ++ (a ∷ []))
below-push kind [] a below h = (h, tt)
below-push kind (x ∷ xs) a below h = (below.0, below-push kind xs a below.1 h)

-- below the least, and then one more
below-next : (least : ℕ) (xs : Attributes) (a : ℕ × List ℕ) → least ≤ a.0 → Below least xs → Below (a.0 + 1) (xs ++ (a ∷ []))
below-next least xs a le below = below-push (a.0 + 1) xs a (below-more least (a.0 + 1) xs (omega arith) below) (omega arith)

-- ---- one attribute among others

set-between : (k : ℕ) (v : List ℕ) (front xs : Attributes) → Below k front → RiseFrom (k + 1) xs
    → set_attribute k v (front ++ xs) ≡ front ++ ((k, v) ∷ xs)
unfolding put_by
set-between k v [] [] below rise = refl
set-between k v [] (a ∷ xs) below rise = set_greater k v a xs (omega (arith, rise.0))
set-between k v (b ∷ front) xs below rise =
    set_lesser k v b (front ++ xs) below.0 ∙ ap (λ (ys : Attributes). b ∷ ys) (set-between k v front xs below.1 rise)

set-there : (k : ℕ) (v : List ℕ) (a : ℕ × List ℕ) (front xs : Attributes) → a.0 ≡ k → Below k front
    → set_attribute k v (front ++ (a ∷ xs)) ≡ front ++ ((k, v) ∷ xs)
set-there k v a [] xs same below = set_same k v a xs same
set-there k v a (b ∷ front) xs same below =
    set_lesser k v b (front ++ (a ∷ xs)) below.0 ∙ ap (λ (ys : Attributes). b ∷ ys) (set-there k v a front xs same below.1)

remove-other : (k : ℕ) (b : ℕ × List ℕ) (xs : Attributes) → (k == b.0) ≡ false → remove_attribute k (b ∷ xs) ≡ b ∷ remove_attribute k xs
remove-other k b xs other = ap (λ (t : Bool). cond (not t) (b ∷ remove_attribute k xs) (remove_attribute k xs)) other

remove-this : (k : ℕ) (b : ℕ × List ℕ) (xs : Attributes) → (k == b.0) ≡ true → remove_attribute k (b ∷ xs) ≡ remove_attribute k xs
remove-this k b xs this = ap (λ (t : Bool). cond (not t) (b ∷ remove_attribute k xs) (remove_attribute k xs)) this

remove-none : (k least : ℕ) (xs : Attributes) → k < least → RiseFrom least xs → remove_attribute k xs ≡ xs
remove-none k least [] lower rise = refl
remove-none k least (b ∷ xs) lower rise =
    let more : least ≤ b.0 = rise.0 in
    let other : (k == b.0) ≡ false = grind (arith, nat_tests) in
    remove-other k b xs other ∙ ap (λ (ys : Attributes). b ∷ ys) (remove-none k (b.0 + 1) xs (omega arith) rise.2)

remove-first : (a : ℕ × List ℕ) (front xs : Attributes) → Below a.0 front → RiseFrom (a.0 + 1) xs
    → remove_attribute a.0 (front ++ (a ∷ xs)) ≡ front ++ xs
remove-first a [] xs below rise =
    let this : (a.0 == a.0) ≡ true = grind (arith, nat_tests) in
    remove-this a.0 a xs this ∙ remove-none a.0 (a.0 + 1) xs (omega arith) rise
remove-first a (b ∷ front) xs below rise =
    let less : b.0 < a.0 = below.0 in
    let other : (a.0 == b.0) ≡ false = grind (arith, nat_tests) in
    remove-other a.0 b (front ++ (a ∷ xs)) other ∙ ap (λ (ys : Attributes). b ∷ ys) (remove-first a front xs below.1 rise)

-- ---- which tags they are

between-goes : (forced : Option ℕ) (id : ℕ) (a b : ℕ × List ℕ) (xs ys : Attributes) → a.0 < b.0
    → attributes_between forced id (a ∷ xs) (b ∷ ys) ≡ gone_item id a.0 ∷ attributes_between forced id xs (b ∷ ys)
unfolding attributes_between
between-goes forced id a b xs ys h =
    let less : nat_lt a.0 b.0 ≡ true = grind (arith, nat_tests) in
    rw less (refl {a = gone_item id a.0 ∷ attributes_between forced id xs (b ∷ ys)})

between-comes : (forced : Option ℕ) (id : ℕ) (a b : ℕ × List ℕ) (xs ys : Attributes) → b.0 < a.0
    → attributes_between forced id (a ∷ xs) (b ∷ ys) ≡ attribute_item id b ∷ attributes_between forced id (a ∷ xs) ys
unfolding attributes_between
between-comes forced id a b xs ys h =
    let no_less : nat_lt a.0 b.0 ≡ false = grind (arith, nat_tests) in
    let less : nat_lt b.0 a.0 ≡ true = grind (arith, nat_tests) in
    rw (no_less, less) (refl {a = attribute_item id b ∷ attributes_between forced id (a ∷ xs) ys})

between-stays : (forced : Option ℕ) (id : ℕ) (a b : ℕ × List ℕ) (xs ys : Attributes) → a.0 ≡ b.0
    → attributes_between forced id (a ∷ xs) (b ∷ ys) ≡ value_tags forced id a b ++ attributes_between forced id xs ys
unfolding attributes_between
between-stays forced id a b xs ys h =
    let no_less : nat_lt a.0 b.0 ≡ false = grind (arith, nat_tests) in
    let no_more : nat_lt b.0 a.0 ≡ false = grind (arith, nat_tests) in
    rw (no_less, no_more) (refl {a = value_tags forced id a b ++ attributes_between forced id xs ys})

between-new : (forced : Option ℕ) (id : ℕ) (ys : Attributes) → map (attribute_item id) ys ≡ attributes_between forced id [] ys
unfolding attributes_between
between-new forced id [] = refl
between-new forced id (y ∷ ys) = ap (λ (ts : List Item). attribute_item id y ∷ ts) (between-new forced id ys)

-- ---- the tags replayed

-- the part with an entry of these attributes at a place
abbrev pub valued : Place → RawEntry → Attributes → RawPart
valued p x values = at_place p (with_values values x)

value-comes : (p : Place) (x : RawEntry) (front xs : Attributes) (b : ℕ × List ℕ) → length p.done < 1023 → AttributeFits b → Below b.0 front
    → RiseFrom (b.0 + 1) xs
    → step (valued p x (front ++ xs)) (attribute_item (length p.done) b) ≡ Some (valued p x ((front ++ (b ∷ [])) ++ xs))
value-comes p x front xs b few fits below rise =
    set-step p (with_values (front ++ xs) x) b few fits
    ∙ ap (λ (vs : Attributes). Some (valued p x vs)) (set-between b.0 b.1 front xs below rise ∙ sym (append_assoc front (b ∷ []) xs))

value-set : (p : Place) (x : RawEntry) (front xs : Attributes) (a b : ℕ × List ℕ) → length p.done < 1023 → AttributeFits b → a.0 ≡ b.0
    → Below b.0 front
    → step (valued p x (front ++ (a ∷ xs))) (attribute_item (length p.done) b) ≡ Some (valued p x ((front ++ (b ∷ [])) ++ xs))
value-set p x front xs a b few fits same below =
    set-step p (with_values (front ++ (a ∷ xs)) x) b few fits
    ∙ ap (λ (vs : Attributes). Some (valued p x vs)) (set-there b.0 b.1 a front xs same below ∙ sym (append_assoc front (b ∷ []) xs))

value-goes : (p : Place) (x : RawEntry) (front xs : Attributes) (a : ℕ × List ℕ) → length p.done < 1023 → AttributeFits a → Below a.0 front
    → RiseFrom (a.0 + 1) xs
    → step (valued p x (front ++ (a ∷ xs))) (gone_item (length p.done) a.0) ≡ Some (valued p x (front ++ xs))
value-goes p x front xs a few fits below rise =
    gone-step p (with_values (front ++ (a ∷ xs)) x) a.0 few fits.kind
    ∙ ap (λ (vs : Attributes). Some (valued p x vs)) (remove-first a front xs below rise)

value-stays : (p : Place) (x : RawEntry) (forced : Option ℕ) (front xs : Attributes) (a b : ℕ × List ℕ) (more : List Item)
    → length p.done < 1023 → AttributeFits b → a.0 ≡ b.0 → Below b.0 front
    → replay_from (valued p x (front ++ (a ∷ xs))) (value_tags forced (length p.done) a b ++ more)
    ≡ replay_from (valued p x ((front ++ (b ∷ [])) ++ xs)) more
value-stays p x forced front xs a b more few fits same below =
    let tags : Bool → List Item = λ t. (if t then [] else attribute_item (length p.done) b ∷ []) ++ more in
    let old : RawPart = valued p x (front ++ (a ∷ xs)) in
    let test : Bool = bytes_eq a.1 b.1 && not (is_forced forced b.0) in
    elim (cases_Bool test) [
      | inl kept ↦
          let equal : a.1 ≡ b.1 = (bytes_eq-Decides a.1 b.1).0 (and_parts (bytes_eq a.1 b.1) (not (is_forced forced b.0)) kept).0 in
          ap (λ (t : Bool). replay_from old (tags t)) kept
          ∙ ap (λ (k : ℕ). replay_from (valued p x (front ++ ((k, a.1) ∷ xs))) more) same
          ∙ ap (λ (v : List ℕ). replay_from (valued p x (front ++ ((b.0, v) ∷ xs))) more) equal
          ∙ ap (λ (vs : Attributes). replay_from (valued p x vs) more) (sym (append_assoc front (b ∷ []) xs))
      | inr other ↦
          ap (λ (t : Bool). replay_from old (tags t)) other
          ∙ replay_from-cons old (valued p x ((front ++ (b ∷ [])) ++ xs)) (attribute_item (length p.done) b) more
          (value-set p x front xs a b few fits same below)
    ]

-- attributes behind a front that stays become others
pub attributes-become : (p : Place) (x : RawEntry) (forced : Option ℕ) (least : ℕ) (front xs ys : Attributes) (more : List Item)
    → length p.done < 1023 → Below least front → RiseFrom least xs → RiseFrom least ys
    → replay_from (valued p x (front ++ xs)) (attributes_between forced (length p.done) xs ys ++ more)
    ≡ replay_from (valued p x (front ++ ys)) more
unfolding attributes_between
attributes-become p x forced least front [] [] more few below rise rises = refl
attributes-become p x forced least front [] (b ∷ ys) more few below rise rises =
    replay_from-cons (valued p x (front ++ [])) (valued p x ((front ++ (b ∷ [])) ++ [])) (attribute_item (length p.done) b)
    (attributes_between forced (length p.done) [] ys ++ more)
    (value-comes p x front [] b few rises.1 (below-more least b.0 front rises.0 below) tt)
    ∙ attributes-become p x forced (b.0 + 1) (front ++ (b ∷ [])) [] ys more few (below-next least front b rises.0 below) tt rises.2
    ∙ ap (λ (vs : Attributes). replay_from (valued p x vs) more) (append_assoc front (b ∷ []) ys)
attributes-become p x forced least front (a ∷ xs) [] more few below rise rises =
    replay_from-cons (valued p x (front ++ (a ∷ xs))) (valued p x (front ++ xs)) (gone_item (length p.done) a.0)
    (attributes_between forced (length p.done) xs [] ++ more)
    (value-goes p x front xs a few rise.1 (below-more least a.0 front rise.0 below) rise.2)
    ∙ attributes-become p x forced (a.0 + 1) front xs [] more few (below-more least (a.0 + 1) front (omega (arith, rise.0)) below) rise.2 tt
attributes-become p x forced least front (a ∷ xs) (b ∷ ys) more few below rise rises =
    let id : ℕ = length p.done in
    let old : RawPart = valued p x (front ++ (a ∷ xs)) in
    let here : least ≤ a.0 = rise.0 in
    let there : least ≤ b.0 = rises.0 in
    elim (cases_order a.0 b.0) [
      | inl same ↦
          let next : RiseFrom (b.0 + 1) xs = subst (λ (k : ℕ). RiseFrom (k + 1) xs) same rise.2 in
          ap (λ (ts : List Item). replay_from old (ts ++ more)) (between-stays forced id a b xs ys same)
          ∙ ap (replay_from old) (append_assoc (value_tags forced id a b) (attributes_between forced id xs ys) more)
          ∙ value-stays p x forced front xs a b (attributes_between forced id xs ys ++ more) few rises.1 same
          (below-more least b.0 front there below)
          ∙ attributes-become p x forced (b.0 + 1) (front ++ (b ∷ [])) xs ys more few (below-next least front b there below) next rises.2
          ∙ ap (λ (vs : Attributes). replay_from (valued p x vs) more) (append_assoc front (b ∷ []) ys)
      | inr other ↦ elim other [
        | inl less ↦
            ap (λ (ts : List Item). replay_from old (ts ++ more)) (between-goes forced id a b xs ys less)
            ∙ replay_from-cons old (valued p x (front ++ xs)) (gone_item id a.0) (attributes_between forced id xs (b ∷ ys) ++ more)
            (value-goes p x front xs a few rise.1 (below-more least a.0 front here below) rise.2)
            ∙ attributes-become p x forced (a.0 + 1) front xs (b ∷ ys) more few
            (below-more least (a.0 + 1) front (omega arith) below) rise.2 (omega arith, rises.1, rises.2)
        | inr greater ↦
            ap (λ (ts : List Item). replay_from old (ts ++ more)) (between-comes forced id a b xs ys greater)
            ∙ replay_from-cons old (valued p x ((front ++ (b ∷ [])) ++ (a ∷ xs))) (attribute_item id b)
            (attributes_between forced id (a ∷ xs) ys ++ more)
            (value-comes p x front (a ∷ xs) b few rises.1 (below-more least b.0 front there below) (omega arith, rise.1, rise.2))
            ∙ attributes-become p x forced (b.0 + 1) (front ++ (b ∷ [])) (a ∷ xs) ys more few
            (below-next least front b there below) (omega arith, rise.1, rise.2) rises.2
            ∙ ap (λ (vs : Attributes). replay_from (valued p x vs) more) (append_assoc front (b ∷ []) ys)
      ]
    ]

-- attributes come to an entry that has none
pub attributes-come : (p : Place) (x : RawEntry) (ys : Attributes) (more : List Item) → length p.done < 1023 → RiseFrom 0 ys
    → replay_from (valued p x []) (map (attribute_item (length p.done)) ys ++ more) ≡ replay_from (valued p x ys) more
attributes-come p x ys more few rise =
    ap (λ (ts : List Item). replay_from (valued p x []) (ts ++ more)) (between-new None (length p.done) ys)
    ∙ attributes-become p x None 0 [] [] ys more few tt tt rise
