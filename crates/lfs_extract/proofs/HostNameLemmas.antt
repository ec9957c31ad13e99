-- Host's names and their order.
use Rattle.std.proofs.Common.{◌≡◌, ◌≢◌, ◌⊎◌, ◌==◌, ◌+◌, ◌<◌, ℕ, not, Bool, true, false, List, [], ◌∷◌, refl, sym, arith, suc, add-one}
use Rattle.std.proofs.Common.{inl, inr, length, get_or, map, subst}
use Rattle.std.specs.Prelude.{◌&&◌}
use Rattle.std.specs.Bool.{Decides}
use Rattle.std.specs.Cmp.{IsStrictWeakOrder}
use Rattle.std.specs.List.{All, Contains, list_all, list_any, AllAdjacentBelow}
use Rattle.std.specs.List.Sorted.{IsPermutation, IsSortedBy}
use Rattle.std.specs.Str.{IsUtf8}
use Rattle.std.proofs.lemmas.Bool.Decides.{Decides-and, Decides-like, nat_tests}
use Rattle.std.proofs.lemmas.List.{get_or-map, length-map}
use Rattle.std.proofs.lemmas.List.Elements.{All-nil, All-cons, All-head, All-tail, All-weaker}
use Rattle.std.proofs.lemmas.List.Sorted.{IsPermutation-map}
use Rattle.std.proofs.lemmas.Bool.{and_parts}
use Rattle.lfs_meta.specs.Name.{Name, is_name}
use Rattle.lfs_meta.proofs.NameLemmas.{is_name-decides}
use Rattle.lfs_fs.specs.NameOrder.{precedes}
use Rattle.lfs_fs.proofs.NameOrderLemmas.{precedes_irreflexive, precedes_transitive, precedes_compares}
use Rattle.lfs_fs.proofs.ContainsLemmas.{contains_later}
use Rattle.lfs_extract.specs.HostNames.{IsHostName, is_host_name, NamesAreInOrder, NoneFalls, IsTwiceIn}

-- ---- which names fit

some_zero : (b : ℕ) (n : Name) → not (list_any (λ c. c == 0) (b ∷ n)) ≡ true → (b ≢ 0) × (not (list_any (λ c. c == 0) n) ≡ true)
some_zero b n h = grind (arith, nat_tests)

none_zero : (b : ℕ) (n : Name) → b ≢ 0 → not (list_any (λ c. c == 0) n) ≡ true → not (list_any (λ c. c == 0) (b ∷ n)) ≡ true
none_zero b n h k = grind (arith, nat_tests)

without_zero : (n : Name) → Decides (not (list_any (λ c. c == 0) n)) (All (λ b. b ≢ 0) n)
without_zero [] = (λ h. All-nil (λ b. b ≢ 0), λ h. refl)
without_zero (b ∷ n) = (
  λ h. let one = some_zero b n h in All-cons (λ c. c ≢ 0) b n one.0 ((without_zero n).0 one.1),
  λ h. none_zero b n (All-head (λ c. c ≢ 0) b n h) ((without_zero n).1 (All-tail (λ c. c ≢ 0) b n h)),
)

-- the test says whether UTF-8 is a host's name that an image may hold
pub is_host_name-decides : (n : Name) → IsUtf8 n → Decides (is_host_name n) (IsHostName n)
is_host_name-decides n text = Decides-like (is_host_name n) (λ p. record { name = p.0; no_zero = p.1; text = text })
    (λ h. (h.name, h.no_zero))
    (Decides-and (is_name n) (not (list_any (λ c. c == 0) n)) (is_name-decides n) (without_zero n))

pub no_host_name : (n : Name) → IsUtf8 n → is_host_name n ≡ false → ¬ IsHostName n
no_host_name n text is = λ h. let yes : is_host_name n ≡ true = (is_host_name-decides n text).1 h in absurd (cc)

-- ---- lists of names

pub all_pass : {X : Type 0} (p : X → Bool) (xs : List X) → list_all p xs ≡ true → All (λ x. p x ≡ true) xs
all_pass p [] h = All-nil (λ x. p x ≡ true)
all_pass p (x ∷ xs) h = let both = and_parts (p x) (list_all p xs) h in
    All-cons (λ y. p y ≡ true) x xs both.0 (all_pass p xs both.1)

fails_by : {X : Type 0} (p : X → Bool) (b : Bool) (x : X) (xs : List X) → p x ≡ b → (b && list_all p xs) ≡ false
    → (list_all p xs ≡ false → (y : X) × Contains xs y × (p y ≡ false)) → (y : X) × Contains (x ∷ xs) y × (p y ≡ false)
fails_by p true x xs is h rest = let one = rest h in (one.0, contains_later x xs one.0 one.1, one.2)
fails_by p false x xs is h rest = (x, (0, omega arith, refl), is)

pub some_fails : {X : Type 0} (p : X → Bool) (xs : List X) → list_all p xs ≡ false → (x : X) × Contains xs x × (p x ≡ false)
some_fails p [] h = cc
some_fails p (x ∷ xs) h = fails_by p (p x) x xs refl h (some_fails p xs)

-- ---- the order

asymmetric_by : (v : Bool) (a b : Name) → precedes b a ≡ v → precedes a b ≡ true → v ≡ false
asymmetric_by true a b back h = let self' : precedes a a ≡ true = precedes_transitive a b a h back in cc (self', precedes_irreflexive a)
asymmetric_by false a b back h = refl

chain_by : (v : Bool) (a b c : Name) → precedes a c ≡ v → precedes a b ≡ false → precedes b c ≡ false
    → (precedes a b ≡ true) ⊎ (precedes b a ≡ true) ⊎ (a ≡ b) → v ≡ false
chain_by false a b c is h k cases = refl
chain_by true a b c is h k (inl before) = cc
chain_by true a b c is h k (inr (inl after)) = let far : precedes b c ≡ true = precedes_transitive b a c after is in cc
chain_by true a b c is h k (inr (inr same)) = let far : precedes b c ≡ true = rw (← same) is in cc

pub names_rank : IsStrictWeakOrder precedes
names_rank = record {
  one_way = λ a b h. asymmetric_by (precedes b a) a b refl h;
  chain = λ a b c h k. chain_by (precedes a c) a b c refl h k (precedes_compares a b);
}

-- what is sorted by the names of its items has names that are sorted
pub sorted_map : {X : Type 0} (f : X → Name) (xs : List X) → IsSortedBy (λ x y. precedes (f x) (f y)) xs → NoneFalls (map f xs)
sorted_map f [] h = λ k d low within. absurd (omega arith)
sorted_map f (x ∷ xs) h = λ k d low within.
    let len : length (map f (x ∷ xs)) ≡ length (x ∷ xs) = length-map (x ∷ xs) f in
    let next : get_or (map f (x ∷ xs)) (k + 1) d ≡ f (get_or (x ∷ xs) (k + 1) x) = get_or-map f (x ∷ xs) (k + 1) x d (omega arith) in
    let here : get_or (map f (x ∷ xs)) k d ≡ f (get_or (x ∷ xs) k x) = get_or-map f (x ∷ xs) k x d (omega arith) in
    let before : precedes (f (get_or (x ∷ xs) (k + 1) x)) (f (get_or (x ∷ xs) k x)) ≡ false = h k x low (omega arith) in
    rw (next, here) before

abbrev EachPrecedes : List Name → Type 0
EachPrecedes ns = (k : ℕ) (d : Name) → suc k < length ns → precedes (get_or ns k d) (get_or ns (suc k) d) ≡ true

-- names of which each comes before the next rise
names_rise : (ns : List Name) → EachPrecedes ns → NamesAreInOrder ns
names_rise [] h = tt
names_rise (n ∷ []) h = (All-nil (λ m. precedes n m ≡ true), tt)
names_rise (n ∷ (m ∷ ns)) h =
    let P : Name → Type 0 = λ (l : Name). precedes n l ≡ true in
    let first : precedes n m ≡ true = h 0 [] (omega arith) in
    let rest : NamesAreInOrder (m ∷ ns) = names_rise (m ∷ ns) (λ k d within. h (suc k) d (omega arith)) in (
      All-cons P m ns first (All-weaker (λ (l : Name). precedes m l ≡ true) P
          (λ l before. precedes_transitive n m l first before) ns rest.0),
      rest,
    )

-- the same of the names of items
pub items_rise : {X : Type 0} (f : X → Name) (xs : List X) → AllAdjacentBelow (λ x y. true ≡ precedes (f x) (f y)) xs (length xs)
    → NamesAreInOrder (map f xs)
items_rise f [] h = tt
items_rise f (x ∷ xs) h = names_rise (map f (x ∷ xs)) (λ k d within.
    let len : length (map f (x ∷ xs)) ≡ length (x ∷ xs) = length-map (x ∷ xs) f in
    let next : get_or (map f (x ∷ xs)) (suc k) d ≡ f (get_or (x ∷ xs) (suc k) x) = get_or-map f (x ∷ xs) (suc k) x d (omega arith) in
    let here : get_or (map f (x ∷ xs)) k d ≡ f (get_or (x ∷ xs) k x) = get_or-map f (x ∷ xs) k x d (omega arith) in
    let next_pair : ℕ → Type 0 = λ (m : ℕ). true ≡ precedes (f (get_or (x ∷ xs) k x)) (f (get_or (x ∷ xs) m x)) in
    let before : next_pair (suc k) = subst next_pair (add-one k) (h k x (omega arith)) in
    rw (next, here) (sym before))

same_by : (a b : Name) → precedes a b ≡ false → precedes b a ≡ false → (precedes a b ≡ true) ⊎ (precedes b a ≡ true) ⊎ (a ≡ b) → a ≡ b
same_by a b h k (inl before) = cc
same_by a b h k (inr (inl after)) = cc
same_by a b h k (inr (inr same)) = same

-- two neighbours neither of which comes first are the same
pub items_twice : {X : Type 0} (f : X → Name) (there xs : List X) (k : ℕ) → IsPermutation there xs → NoneFalls (map f xs) → k + 1 < length xs
    → ((d : X) → false ≡ precedes (f (get_or xs k d)) (f (get_or xs (k + 1) d))) → IsTwiceIn (map f there)
items_twice f there [] k same sorted within h = absurd (omega arith)
items_twice f there (x ∷ xs) k same sorted within h =
    let ns : List Name = map f (x ∷ xs) in
    let len : length (map f (x ∷ xs)) ≡ length (x ∷ xs) = length-map (x ∷ xs) f in
    let next : get_or (map f (x ∷ xs)) (k + 1) [] ≡ f (get_or (x ∷ xs) (k + 1) x) = get_or-map f (x ∷ xs) (k + 1) x [] (omega arith) in
    let here : get_or (map f (x ∷ xs)) k [] ≡ f (get_or (x ∷ xs) k x) = get_or-map f (x ∷ xs) k x [] (omega arith) in
    let not_before : precedes (get_or (map f (x ∷ xs)) k []) (get_or (map f (x ∷ xs)) (k + 1) []) ≡ false = rw (next, here) (sym (h x)) in
    let not_after : precedes (get_or (map f (x ∷ xs)) (k + 1) []) (get_or (map f (x ∷ xs)) k []) ≡ false = sorted k [] (omega arith) (omega arith) in (
      map f (x ∷ xs),
      k,
      IsPermutation-map f there (x ∷ xs) same,
      omega arith,
      same_by (get_or (map f (x ∷ xs)) k []) (get_or (map f (x ∷ xs)) (k + 1) []) not_before not_after
          (precedes_compares (get_or (map f (x ∷ xs)) k []) (get_or (map f (x ∷ xs)) (k + 1) [])),
    )
