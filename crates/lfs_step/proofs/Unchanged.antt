-- An image none of whose blocks changes.
use Rattle.std.proofs.Common.{◌≡◌, ℕ, ◌+◌, ◌*◌, Bool, true, false, not, cond, List, [], ◌∷◌, ◌++◌, map, take, drop, zero, suc, refl, ap, ap₂, sym, ◌∙◌, arith, add-one}
use Rattle.std.specs.Prelude.{bytes_eq}
use Rattle.std.specs.List.{filter, range_with_len}
use Rattle.std.proofs.lemmas.List.{drop-take, take-append-drop, take-take, take_all}
use Rattle.std.proofs.lemmas.List.FromFn.{filter_of_map_range_with_len_more}
use Rattle.std.proofs.lemmas.Slice.Eq.{bytes_eq-Decides}
use Rattle.lfs_block.specs.Disk.{Disk, IsDisk, block_of}
use Rattle.lfs_adopt.specs.Changed.{changed_blocks, is_changed}

-- ---- numbers that pass no test

as_they_are : (ns : List ℕ) → map (λ n. n) ns ≡ ns
as_they_are [] = refl
as_they_are (n ∷ ns) = ap (λ (ms : List ℕ). n ∷ ms) (as_they_are ns)

filtered_more : (test : ℕ → Bool) (n : ℕ)
    → filter test (range_with_len 0 (n + 1)) ≡ filter test (range_with_len 0 n) ++ cond (test n) (n ∷ []) []
filtered_more test n =
    ap (filter test) (sym (as_they_are (range_with_len 0 (n + 1))))
    ∙ filter_of_map_range_with_len_more test (λ (m : ℕ). m) 0 n n (omega arith)
    ∙ ap (λ (ms : List ℕ). filter test ms ++ cond (test n) (n ∷ []) []) (as_they_are (range_with_len 0 n))

both_empty : (xs : List ℕ) (t : Bool) (n : ℕ) → xs ++ cond t (n ∷ []) [] ≡ [] → (xs ≡ []) × (t ≡ false)
both_empty [] true n none = cc
both_empty [] false n none = (refl, refl)
both_empty (x ∷ xs) t n none = cc

last_none : (test : ℕ → Bool) (n : ℕ) → filter test (range_with_len 0 (suc n)) ≡ []
    → (filter test (range_with_len 0 n) ≡ []) × (test n ≡ false)
last_none test n none =
    both_empty (filter test (range_with_len 0 n)) (test n) n
    (sym (filtered_more test n) ∙ ap (λ (m : ℕ). filter test (range_with_len 0 m)) (add-one n) ∙ none)

-- ---- blocks

not_false : (b : Bool) → not b ≡ false → b ≡ true
not_false true is = refl
not_false false is = cc

same_block : (d e : Disk) (b : ℕ) → is_changed d e b ≡ false → block_of d b ≡ block_of e b
same_block d e b is =
    (bytes_eq-Decides (block_of d b) (block_of e b)).0 (not_false (bytes_eq (block_of d b) (block_of e b)) is)

split_take : (a b : ℕ) (xs : List ℕ) → take (a + b) xs ≡ take a xs ++ take b (drop a xs)
split_take a b xs =
    sym (take-append-drop a (take (a + b) xs))
    ∙ ap₂ (λ (x y : List ℕ). x ++ y) (take-take a (a + b) xs (omega arith)) (drop-take a b xs)

front_more : (d : Disk) (n : ℕ) → take (suc n * d.size) d.bytes ≡ take (n * d.size) d.bytes ++ block_of d n
front_more d n =
    ap (λ (m : ℕ). take m d.bytes) (let step : suc n * d.size ≡ n * d.size + d.size = omega arith in step)
    ∙ split_take (n * d.size) d.size d.bytes

-- the bytes of the first blocks stay if none of them changes
front_stays : (d e : Disk) → e.size ≡ d.size → (n : ℕ) → filter (is_changed d e) (range_with_len 0 n) ≡ []
    → take (n * d.size) d.bytes ≡ take (n * e.size) e.bytes
front_stays d e sizes zero none =
    let first : 0 * d.size ≡ 0 = omega arith in
    let second : 0 ≡ 0 * e.size = omega arith in
    ap (λ (n : ℕ). take n d.bytes) first ∙ ap (λ (n : ℕ). take n e.bytes) second
front_stays d e sizes (suc n) none =
    let last = last_none (is_changed d e) n none in
    front_more d n
    ∙ ap₂ (λ (x y : List ℕ). x ++ y) (front_stays d e sizes n last.0) (same_block d e n last.1)
    ∙ sym (front_more e n)

whole : (d : Disk) → IsDisk d → take (d.count * d.size) d.bytes ≡ d.bytes
whole d is = take_all (d.count * d.size) d.bytes (omega (arith, is.len))

-- an image none of whose blocks changes has the same bytes
pub unchanged : (d e : Disk) → IsDisk d → IsDisk e → e.size ≡ d.size → e.count ≡ d.count → changed_blocks d e ≡ [] → e.bytes ≡ d.bytes
unchanged d e is other sizes counts none =
    sym (whole e other)
    ∙ ap (λ (n : ℕ). take (n * e.size) e.bytes) counts
    ∙ sym (front_stays d e sizes d.count none)
    ∙ whole d is
