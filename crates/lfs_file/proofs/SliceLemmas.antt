-- The slices of a file, one by one and joined.
use Rattle.std.proofs.Common.{◌≡◌, ℕ, zero, suc, ◌+◌, ◌-◌, ◌*◌, min, List, [], ◌∷◌, ◌++◌, length, map, take, drop, refl, sym, ap, ◌∙◌, inl}
use Rattle.std.proofs.Common.{inr, arith, slice_index}
use Rattle.std.specs.List.{range_with_len, concat}
use Rattle.std.proofs.Math.Seq.{drop-cons, take-append-add}
use Rattle.std.proofs.lemmas.List.{take-append-le, take_all, take_min, drop_all, length-drop, append-nil, nil_from_length}
use Rattle.std.proofs.lemmas.List.Concat.{concat_is, flat_map-cons}
use Rattle.std.proofs.lemmas.Bool.{cases_lt}
use Rattle.lfs_block.specs.Disk.{Disk, block_of}
use Rattle.lfs_file.specs.Capacity.{pointers}
use Rattle.lfs_file.specs.Content.{data_part, content, slices_from}

pub concat-cons : (xs : List ℕ) (xss : List (List ℕ)) → concat (xs ∷ xss) ≡ xs ++ concat xss
concat-cons xs xss = concat_is (xs ∷ xss) ∙ flat_map-cons (λ x. x) xs xss ∙ ap (λ rest. xs ++ rest) (sym (concat_is xss))

-- the first n of two lists, joined
pub take-append : (n : ℕ) (xs ys : List ℕ) → take n (xs ++ ys) ≡ take n xs ++ take (n - length xs) ys
take-append n xs ys =
    elim (cases_lt n (length xs)) [
      | inl few ↦
          let none : n - length xs ≡ 0 = omega (arith, few) in
          take-append-le n xs ys (omega (arith, few)) ∙ sym (append-nil (take n xs)) ∙ ap (λ k. take n xs ++ take k ys) (sym none)
      | inr past ↦
          let number : n ≡ length xs + (n - length xs) = omega (arith, past) in
          ap (λ k. take k (xs ++ ys)) number ∙ take-append-add xs ys (n - length xs)
          ∙ ap (λ zs. zs ++ take (n - length xs) ys) (sym (take_all n xs (omega (arith, past))))
    ]

pub length-slices : (d : Disk) (n len : ℕ) (blocks : List ℕ) → length (slices_from d n len blocks) ≡ length blocks
unfolding slices_from
length-slices d n len [] = refl
length-slices d n len (block ∷ blocks) = ap suc (length-slices d (n + 1) (len - length (drop (4 * pointers n) (block_of d block))) blocks)

-- the slices from block n on are what the blocks from there on hold
joined_from : (d : Disk) (blocks : List ℕ) (m n len : ℕ) → n + m ≡ length blocks
    → concat (slices_from d n len (drop n blocks)) ≡ take len (concat (map (data_part d blocks) (range_with_len n m)))
unfolding slices_from
joined_from d blocks zero n len is =
    ap (λ bs. concat (slices_from d n len bs)) (drop_all n blocks (omega (arith, is))) ∙ sym (take_all len [] (omega arith))
joined_from d blocks (suc m) n len is =
    let part = data_part d blocks n in
    let others = concat (map (data_part d blocks) (range_with_len (n + 1) m)) in
    let later = slices_from d (n + 1) (len - length part) (drop (n + 1) blocks) in
    let number : suc n ≡ n + 1 = omega arith in
    ap (λ bs. concat (slices_from d n len bs)) (drop-cons blocks n 0 (omega (arith, is))
    ∙ ap (λ k. slice_index blocks n ∷ drop k blocks) number)
    ∙ concat-cons (take len part) later
    ∙ ap (λ xs. take len part ++ xs) (joined_from d blocks m (n + 1) (len - length part) (omega (arith, is)))
    ∙ sym (take-append len part others)
    ∙ ap (take len) (sym (concat-cons part (map (data_part d blocks) (range_with_len (n + 1) m))))

pub joined : (d : Disk) (len : ℕ) (blocks : List ℕ) → concat (slices_from d 0 len blocks) ≡ content d len blocks
unfolding content
joined d len blocks = joined_from d blocks (length blocks) 0 len (omega arith)

-- one step: the slice of the first block, and the slices of the others
pub slices-step : (d : Disk) (n len start size room cut left : ℕ) (chain : List ℕ) (block : ℕ) (later : List ℕ) (bytes : List ℕ)
    → chain ≡ block ∷ later → bytes ≡ block_of d block → length (block_of d block) ≡ size
    → start ≡ 4 * pointers n → room ≡ size - start → cut ≡ min room len → left ≡ len - room
    → slices_from d n len chain ≡ take cut (drop start bytes) ∷ slices_from d (n + 1) left later
unfolding slices_from
slices-step d n len start size room cut left chain block later bytes is here complete starts roomy cuts leaves =
    let part = drop (4 * pointers n) (block_of d block) in
    let held : length part ≡ room = length-drop (4 * pointers n) (block_of d block) ∙ omega (arith, complete, starts, roomy) in
    let same : drop start bytes ≡ part = ap (λ k. drop k bytes) starts ∙ ap (drop (4 * pointers n)) here in
    let first : take cut (drop start bytes) ≡ take len part = ap (take cut) same ∙ ap (λ k. take k part) (omega (arith, cuts, held))
    ∙ take_min len part in
    let others : len - length part ≡ left = omega (arith, held, leaves) in
    ap (slices_from d n len) is
    ∙ ap (λ xs. xs ∷ slices_from d (n + 1) (len - length part) later) (sym first)
    ∙ ap (λ k. take cut (drop start bytes) ∷ slices_from d (n + 1) k later) others

pub slices-none : (d : Disk) (n len : ℕ) (chain : List ℕ) → length chain ≡ 0 → slices_from d n len chain ≡ []
unfolding slices_from
slices-none d n len chain none = ap (slices_from d n len) (nil_from_length chain none)
