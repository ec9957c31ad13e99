-- The blocks that a table of flags leaves unused.
use Rattle.std.proofs.Common.{◌≡◌, ℕ, ◌+◌, ◌-◌, ◌<◌, Bool, true, false, not, List, [], ◌∷◌, ◌++◌, suc, length, take, drop, get_or, cond}
use Rattle.std.proofs.Common.{◌≤◌, zero, refl, ap, sym, ◌∙◌, arith, add-one, drop-cons}
use Rattle.std.specs.Prelude.{◌==◌, if◌then◌else◌, count_by}
use Rattle.std.specs.List.{filter, range_with_len}
use Rattle.std.proofs.lemmas.List.{length_push, append_assoc}
use Rattle.std.proofs.lemmas.Bool.Decides.{nat_tests}
use Rattle.std.proofs.lemmas.List.Sums.{sum_by-cons}
use Rattle.lfs_fs.specs.Volume.{Volume}
use Rattle.lfs_fs.specs.Uses.{uses}
use Rattle.lfs_fs.specs.Free.{free_blocks}
use Rattle.lfs_fs.specs.Unused.{unused_from, unused}
use Rattle.lfs_fs.specs.Used.{AreMarkedBelow}

-- as many as flags that aren't set
pub length_unused : (first : ℕ) (flags : List Bool) → length (unused_from first flags) ≡ count_by (λ (used : Bool). not used) flags
length_unused first [] = refl
length_unused first (true ∷ flags) = omega (
  arith,
  length_unused (first + 1) flags,
  sum_by-cons (λ (used : Bool). if not used then 1 else 0) true flags,
)
length_unused first (false ∷ flags) = omega (
  arith,
  length_unused (first + 1) flags,
  sum_by-cons (λ (used : Bool). if not used then 1 else 0) false flags,
)

-- the next flag, where it is set
more_used : (first : ℕ) (flags : List Bool) (i : ℕ) (d : Bool) → i < length flags → get_or flags i d ≡ true
    → unused_from first (drop i flags) ≡ unused_from (first + 1) (drop (i + 1) flags)
more_used first flags i d within set' =
    let next : drop i flags ≡ get_or flags i d ∷ drop (suc i) flags = drop-cons flags i d within in
    let head : drop i flags ≡ true ∷ drop (suc i) flags = next ∙ ap (λ (u : Bool). u ∷ drop (suc i) flags) set' in
    ap (unused_from first) head ∙ ap (λ (k : ℕ). unused_from (first + 1) (drop k flags)) (sym (add-one i))

-- the next flag, where it isn't
more_unused : (first : ℕ) (flags : List Bool) (i : ℕ) (d : Bool) → i < length flags → get_or flags i d ≡ false
    → unused_from first (drop i flags) ≡ first ∷ unused_from (first + 1) (drop (i + 1) flags)
more_unused first flags i d within clear =
    let next : drop i flags ≡ get_or flags i d ∷ drop (suc i) flags = drop-cons flags i d within in
    let head : drop i flags ≡ false ∷ drop (suc i) flags = next ∙ ap (λ (u : Bool). u ∷ drop (suc i) flags) clear in
    ap (unused_from first) head ∙ ap (λ (k : ℕ). first ∷ unused_from (first + 1) (drop k flags)) (sym (add-one i))

-- blocks in front that are all marked are passed by
below_by : (flags : List Bool) (n : ℕ) → n ≤ length flags → ((b : ℕ) → b < n → get_or flags b false ≡ true)
    → unused_from n (drop n flags) ≡ unused flags
below_by flags zero within each = refl
below_by flags (suc n) within each =
    ap (λ (k : ℕ). unused_from k (drop k flags)) (sym (add-one n)) ∙ sym (more_used n flags n false (omega arith) (each n (omega arith)))
    ∙ below_by flags n (omega arith) (λ b less. each b (omega arith))

pub unused_below : (flags : List Bool) (n : ℕ) → AreMarkedBelow n flags → unused_from n (drop n flags) ≡ unused flags
unused_below flags n below = below_by flags n below.within below.each

-- what is taken, with the least of what is left, where a used block is passed by
pub lowest_more_used : (n i : ℕ) (flags : List Bool) (lowest : List ℕ) (d : Bool) → i < length flags → get_or flags i d ≡ true
    → lowest ++ take (n - length lowest) (unused_from i (drop i flags)) ≡ take n (unused flags)
    → lowest ++ take (n - length lowest) (unused_from (i + 1) (drop (i + 1) flags)) ≡ take n (unused flags)
lowest_more_used n i flags lowest d within set' h = ap (λ (bs : List ℕ). lowest ++ take (n - length lowest) bs)
    (sym (more_used i flags i d within set')) ∙ h

-- the same where a free block is taken
pub lowest_more_unused : (n i : ℕ) (flags : List Bool) (lowest new : List ℕ) (d : Bool) → i < length flags → get_or flags i d ≡ false
    → length lowest < n → new ≡ lowest ++ i ∷ []
    → lowest ++ take (n - length lowest) (unused_from i (drop i flags)) ≡ take n (unused flags)
    → new ++ take (n - length new) (unused_from (i + 1) (drop (i + 1) flags)) ≡ take n (unused flags)
lowest_more_unused n i flags lowest new d within clear few is h =
    let rest : List ℕ = unused_from (i + 1) (drop (i + 1) flags) in
    let long : length new ≡ length lowest + 1 = ap length is ∙ length_push lowest i in
    let left : n - length lowest ≡ suc (n - length new) = omega arith in
    let taken : take (n - length lowest) (unused_from i (drop i flags)) ≡ i ∷ take (n - length new) rest =
    ap (take (n - length lowest)) (more_unused i flags i d within clear) ∙ ap (λ (k : ℕ). take k (i ∷ rest)) left in
    ap (λ (bs : List ℕ). bs ++ take (n - length new) rest) is ∙ append_assoc lowest (i ∷ []) (take (n - length new) rest)
    ∙ ap (λ (bs : List ℕ). lowest ++ bs) (sym taken) ∙ h

-- ---- the free blocks of a volume

next_unused : (u : Bool) (f : ℕ → ℕ) (first : ℕ) (rest : List ℕ) → cond {A = ℕ} u 1 0 ≡ f first
    → (if u then rest else first ∷ rest) ≡ cond (f first == 0) (first ∷ rest) rest
next_unused true f first rest is = let used : (f first == 0) ≡ false = grind (arith, nat_tests) in
    sym (ap (λ (b : Bool). cond b (first ∷ rest) rest) used)
next_unused false f first rest is = let free : (f first == 0) ≡ true = grind (arith, nat_tests) in
    sym (ap (λ (b : Bool). cond b (first ∷ rest) rest) free)

unused-filter : (f : ℕ → ℕ) (flags : List Bool) (first : ℕ) → ((k : ℕ) → k < length flags
    → cond {A = ℕ} (get_or flags k false) 1 0 ≡ f (first + k)) → unused_from first flags
    ≡ filter (λ b. f b == 0) (range_with_len first (length flags))
unused-filter f [] first h = refl
unused-filter f (u ∷ flags) first h =
    let rest : List ℕ = unused_from (first + 1) flags in
    let later : rest ≡ filter (λ b. f b == 0) (range_with_len (first + 1) (length flags)) =
    unused-filter f flags (first + 1) (λ k within. h (suc k) (omega arith) ∙ ap f (omega arith)) in
    let here : cond {A = ℕ} u 1 0 ≡ f first = h 0 (omega arith) ∙ ap f (omega arith) in
    next_unused u f first rest here ∙ ap (λ (bs : List ℕ). cond (f first == 0) (first ∷ bs) bs) later

-- where a table says how often each block is used, it leaves the free blocks unused
pub unused_free : (v : Volume) (flags : List Bool) → length flags ≡ v.count → ((b : ℕ) → cond {A = ℕ} (get_or flags b false) 1 0 ≡ uses b v)
    → unused flags ≡ free_blocks v
unused_free v flags long marks =
    unused-filter (λ b. uses b v) flags 0 (λ k within. marks k ∙ ap (λ (b : ℕ). uses b v) (omega arith))
    ∙ ap (λ (n : ℕ). filter (λ b. uses b v == 0) (range_with_len 0 n)) long
