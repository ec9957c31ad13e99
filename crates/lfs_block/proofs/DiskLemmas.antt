-- Two disks that have the same blocks are one.
use Rattle.std.proofs.Common.{◌≡◌, ℕ, zero, suc, ◌+◌, ◌*◌, ◌<◌, List, [], ◌∷◌, ◌++◌, length, take, drop, refl, ap, sym, subst, ◌∙◌, arith}
use Rattle.std.proofs.lemmas.List.{take-append-drop, length-drop, drop-drop}
use Rattle.lfs_block.specs.Disk.{Disk, IsDisk, block_of}

same-bytes : (count size : ℕ) (xs ys : List ℕ) → length xs ≡ count * size → length ys ≡ count * size
    → ((n : ℕ) → n < count → take size (drop (n * size) xs) ≡ take size (drop (n * size) ys)) → xs ≡ ys
same-bytes zero size [] [] xs_len ys_len same = refl
same-bytes zero size (x ∷ xs) ys xs_len ys_len same = absurd (omega arith)
same-bytes zero size [] (y ∷ ys) xs_len ys_len same = absurd (omega arith)
same-bytes (suc count) size xs ys xs_len ys_len same =
    let xs_left : length (drop size xs) ≡ count * size = omega (arith, length-drop size xs, xs_len) in
    let ys_left : length (drop size ys) ≡ count * size = omega (arith, length-drop size ys, ys_len) in
    let none : 0 * size ≡ 0 = omega arith in
    let first : take size xs ≡ take size ys = subst (λ (k : ℕ). take size (drop k xs) ≡ take size (drop k ys)) none
    (same 0 (omega arith)) in
    let rest : drop size xs ≡ drop size ys = same-bytes count size (drop size xs) (drop size ys) xs_left ys_left (λ n lt.
    let on : size + n * size ≡ suc n * size = omega arith in
    ap (take size) (drop-drop (n * size) size xs ∙ ap (λ (k : ℕ). drop k xs) on)
    ∙ same (suc n) (omega (arith, lt))
    ∙ ap (take size) (sym (drop-drop (n * size) size ys ∙ ap (λ (k : ℕ). drop k ys) on))) in
    sym (take-append-drop size xs) ∙ ap (λ (zs : List ℕ). zs ++ drop size xs) first ∙ ap (λ (zs : List ℕ). take size ys ++ zs) rest
    ∙ take-append-drop size ys

pub equal-by_blocks : (d e : Disk) → IsDisk d → IsDisk e → d.size ≡ e.size → d.count ≡ e.count
    → ((n : ℕ) → n < d.count → block_of d n ≡ block_of e n) → d ≡ e
equal-by_blocks d e this that size count same =
    let e_len : length e.bytes ≡ d.count * d.size = that.len ∙ ap (λ (k : ℕ). k * e.size) (sym count)
    ∙ ap (λ (k : ℕ). d.count * k) (sym size) in
    let bytes : d.bytes ≡ e.bytes =
    same-bytes d.count d.size d.bytes e.bytes this.len e_len (λ n lt. same n lt
    ∙ ap (λ (k : ℕ). take k (drop (n * k) e.bytes)) (sym size)) in
    ap (λ (k : ℕ). record { size = k; count = d.count; bytes = d.bytes }) size
    ∙ ap (λ (k : ℕ). record { size = e.size; count = k; bytes = d.bytes }) count
    ∙ ap (λ (bs : List ℕ). record { size = e.size; count = e.count; bytes = bs }) bytes
