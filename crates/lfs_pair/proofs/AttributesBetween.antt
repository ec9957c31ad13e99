-- The tags between two lists of attributes, one old attribute after another.
use Rattle.std.proofs.Common.{◌≡◌, ◌≢◌, ℕ, ◌+◌, ◌<◌, ◌≤◌, Bool, true, false, List, [], ◌∷◌, ◌++◌, length, map, take, drop, get_or, refl, ap}
use Rattle.std.proofs.Common.{sym, ◌∙◌, arith, suc, zero, inl, inr, nat_lt, Option}
use Rattle.std.specs.List.{prefix_len}
use Rattle.std.proofs.lemmas.Bool.{cases_lt, ltb-false}
use Rattle.std.proofs.lemmas.Bool.Decides.{nat_tests}
use Rattle.std.proofs.lemmas.List.{drop_more, drop_all}
use Rattle.std.proofs.lemmas.List.Sums.{prefix_len_stops}
use Rattle.lfs_tag.specs.Commit.{Item}
use Rattle.lfs_meta.specs.Attribute.{Attributes}
use Rattle.lfs_pair.specs.Difference.{attributes_between, gone_item, value_tags}
use Rattle.lfs_pair.specs.Spelling.{attribute_item}
use Rattle.lfs_pair.proofs.TurnLemmas.{joined, next_of}

abbrev is_lesser : ℕ → ℕ × List ℕ → Bool
is_lesser kind a = nat_lt a.0 kind

-- how many attributes at the front have lesser kinds
abbrev pub place : ℕ → Attributes → ℕ
place kind ys = prefix_len (λ a. nat_lt a.0 kind) ys

place-lesser : (kind : ℕ) (y : ℕ × List ℕ) (ys : Attributes) → y.0 < kind → place kind (y ∷ ys) ≡ suc (place kind ys)
place-lesser kind y ys less =
    let passes : nat_lt y.0 kind ≡ true = grind (arith, nat_tests) in
    rw passes (omega arith)

place-other : (kind : ℕ) (y : ℕ × List ℕ) (ys : Attributes) → kind ≤ y.0 → place kind (y ∷ ys) ≡ 0
place-other kind y ys other =
    let fails : nat_lt y.0 kind ≡ false = grind (arith, nat_tests) in
    rw fails refl

-- ---- the heads

comes : (forced : Option ℕ) (id : ℕ) (x y : ℕ × List ℕ) (xs ys : Attributes) → y.0 < x.0
    → attributes_between forced id (x ∷ xs) (y ∷ ys) ≡ attribute_item id y ∷ attributes_between forced id (x ∷ xs) ys
unfolding attributes_between
comes forced id x y xs ys less =
    let fails : nat_lt x.0 y.0 ≡ false = grind (arith, nat_tests) in
    let passes : nat_lt y.0 x.0 ≡ true = grind (arith, nat_tests) in
    rw (fails, passes) (refl {a = attribute_item id y ∷ attributes_between forced id (x ∷ xs) ys})

stays : (forced : Option ℕ) (id : ℕ) (x y : ℕ × List ℕ) (xs ys : Attributes) → y.0 ≡ x.0
    → attributes_between forced id (x ∷ xs) (y ∷ ys) ≡ value_tags forced id x y ++ attributes_between forced id xs ys
unfolding attributes_between
stays forced id x y xs ys same =
    let fails : nat_lt x.0 y.0 ≡ false = grind (arith, nat_tests) in
    let neither : nat_lt y.0 x.0 ≡ false = grind (arith, nat_tests) in
    rw (fails, neither) (refl {a = value_tags forced id x y ++ attributes_between forced id xs ys})

goes : (forced : Option ℕ) (id : ℕ) (x y : ℕ × List ℕ) (xs ys : Attributes) → x.0 < y.0
    → attributes_between forced id (x ∷ xs) (y ∷ ys) ≡ gone_item id x.0 ∷ attributes_between forced id xs (y ∷ ys)
unfolding attributes_between
goes forced id x y xs ys less =
    let passes : nat_lt x.0 y.0 ≡ true = grind (arith, nat_tests) in
    rw passes (refl {a = gone_item id x.0 ∷ attributes_between forced id xs (y ∷ ys)})

goes-last : (forced : Option ℕ) (id : ℕ) (x : ℕ × List ℕ) (xs : Attributes)
    → attributes_between forced id (x ∷ xs) [] ≡ gone_item id x.0 ∷ attributes_between forced id xs []
unfolding attributes_between
goes-last forced id x xs = refl

-- ---- the new ones of lesser kinds

waits : (forced : Option ℕ) (id : ℕ) (x : ℕ × List ℕ) (xs ys : Attributes) (n : ℕ) → n ≡ place x.0 ys
    → attributes_between forced id (x ∷ xs) ys ≡ map (attribute_item id) (take n ys) ++ attributes_between forced id (x ∷ xs) (drop n ys)
waits forced id x xs ys zero at = refl
waits forced id x xs [] (suc n) at = absurd (omega (arith, at))
waits forced id x xs (y ∷ ys) (suc n) at = elim (cases_lt y.0 x.0) [
  | inl less ↦
      let next : place x.0 (y ∷ ys) ≡ suc (place x.0 ys) = place-lesser x.0 y ys less in
      comes forced id x y xs ys less
      ∙ ap (λ (ts : List Item). attribute_item id y ∷ ts) (waits forced id x xs ys n (omega (arith, at, next)))
  | inr other ↦ let none : place x.0 (y ∷ ys) ≡ 0 = place-other x.0 y ys other in absurd (omega (arith, at, none))
]

-- ---- an old one whose kind is there

pub value-pushed : (before between after : List Item) (forced : Option ℕ) (id : ℕ) (x y : ℕ × List ℕ) (xs ys rest : Attributes) (n : ℕ)
    → n ≡ place x.0 ys → n < length ys → y ≡ get_or ys n y → y.0 ≡ x.0 → rest ≡ drop (n + 1) ys
    → between ≡ before ++ map (attribute_item id) (take n ys) → after ≡ between ++ value_tags forced id x y
    → after ++ attributes_between forced id xs rest ≡ before ++ attributes_between forced id (x ∷ xs) ys
value-pushed before between after forced id x y xs ys rest n at within y_is same rest_is first second =
    let coming : List Item = map (attribute_item id) (take n ys) in
    let all : attributes_between forced id (x ∷ xs) ys ≡ coming ++ (value_tags forced id x y ++ attributes_between forced id xs rest) =
    waits forced id x xs ys n at
    ∙ ap (λ (zs : Attributes). coming ++ attributes_between forced id (x ∷ xs) zs) (next_of ys n y within y_is)
    ∙ ap (λ (ts : List Item). coming ++ ts) (stays forced id x y xs (drop (n + 1) ys) same)
    ∙ ap (λ (zs : Attributes). coming ++ (value_tags forced id x y ++ attributes_between forced id xs zs)) (sym rest_is) in
    joined before between after coming (value_tags forced id x y) (attributes_between forced id xs rest) first second
    ∙ ap (λ (ts : List Item). before ++ ts) (sym all)

-- ---- an old one whose kind is gone

goes-alone : (forced : Option ℕ) (id : ℕ) (x : ℕ × List ℕ) (xs ys : Attributes) (n : ℕ) → n ≡ place x.0 ys
    → (n < length ys → (d : ℕ × List ℕ) → (get_or ys n d).0 ≢ x.0)
    → attributes_between forced id (x ∷ xs) (drop n ys) ≡ gone_item id x.0 ∷ attributes_between forced id xs (drop n ys)
goes-alone forced id x xs ys n at other = elim (cases_lt n (length ys)) [
  | inl within ↦
      let d : ℕ × List ℕ = (0, []) in
      let y : ℕ × List ℕ = get_or ys n d in
      let split : drop n ys ≡ y ∷ drop (n + 1) ys = drop_more ys n d within in
      let stops : nat_lt (get_or ys (place x.0 ys) d).0 x.0 ≡ false =
      prefix_len_stops (is_lesser x.0) ys d (omega (arith, at, within)) in
      let no_less : nat_lt y.0 x.0 ≡ false = ap (λ (k : ℕ). nat_lt (get_or ys k d).0 x.0) at ∙ stops in
      let above : x.0 ≤ y.0 = ltb-false y.0 x.0 no_less in
      let apart : y.0 ≢ x.0 = other within d in
      let less : x.0 < y.0 = omega (arith, above, apart) in
      ap (attributes_between forced id (x ∷ xs)) split
      ∙ goes forced id x y xs (drop (n + 1) ys) less
      ∙ ap (λ (zs : Attributes). gone_item id x.0 ∷ attributes_between forced id xs zs) (sym split)
  | inr past ↦
      let none : drop n ys ≡ [] = drop_all n ys past in
      ap (attributes_between forced id (x ∷ xs)) none
      ∙ goes-last forced id x xs
      ∙ ap (λ (zs : Attributes). gone_item id x.0 ∷ attributes_between forced id xs zs) (sym none)
]

pub gone-pushed : (before between after : List Item) (forced : Option ℕ) (id : ℕ) (x : ℕ × List ℕ) (xs ys rest : Attributes) (n : ℕ)
    → n ≡ place x.0 ys → (n < length ys → (d : ℕ × List ℕ) → (get_or ys n d).0 ≢ x.0) → rest ≡ drop n ys
    → between ≡ before ++ map (attribute_item id) (take n ys) → after ≡ between ++ (gone_item id x.0 ∷ [])
    → after ++ attributes_between forced id xs rest ≡ before ++ attributes_between forced id (x ∷ xs) ys
gone-pushed before between after forced id x xs ys rest n at other rest_is first second =
    let coming : List Item = map (attribute_item id) (take n ys) in
    let all : attributes_between forced id (x ∷ xs) ys ≡ coming ++ (gone_item id x.0 ∷ attributes_between forced id xs rest) =
    waits forced id x xs ys n at
    ∙ ap (λ (ts : List Item). coming ++ ts) (goes-alone forced id x xs ys n at other)
    ∙ ap (λ (zs : Attributes). coming ++ (gone_item id x.0 ∷ attributes_between forced id xs zs)) (sym rest_is) in
    joined before between after coming (gone_item id x.0 ∷ []) (attributes_between forced id xs rest) first second
    ∙ ap (λ (ts : List Item). before ++ ts) (sym all)

-- ---- no old one is left

between-none : (forced : Option ℕ) (id : ℕ) (ys : Attributes) → attributes_between forced id [] ys ≡ map (attribute_item id) ys
unfolding attributes_between
between-none forced id [] = refl
between-none forced id (y ∷ ys) = ap (λ (ts : List Item). attribute_item id y ∷ ts) (between-none forced id ys)

pub none-left : (forced : Option ℕ) (id : ℕ) (xs : Attributes) (i : ℕ) (left : Attributes) (before after all : List Item) → length xs ≤ i
    → before ++ attributes_between forced id (drop i xs) left ≡ all → after ≡ before ++ map (attribute_item id) left → after ≡ all
none-left forced id xs i left before after all past so_far last =
    let rest : attributes_between forced id (drop i xs) left ≡ map (attribute_item id) left =
    ap (λ (zs : Attributes). attributes_between forced id zs left) (drop_all i xs past) ∙ between-none forced id left in
    last ∙ ap (λ (ts : List Item). before ++ ts) (sym rest) ∙ so_far
