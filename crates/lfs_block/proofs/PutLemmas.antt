-- The blocks of a disk of which one was put.
use Rattle.std.proofs.Common.{◌≡◌, ◌≢◌, ℕ, zero, suc, ◌+◌, ◌-◌, ◌*◌, ◌<◌, ◌≤◌, List, [], ◌∷◌, ◌++◌, length, replicate, take, drop, ap, sym, ◌∙◌}
use Rattle.std.proofs.Common.{arith, inl, inr, append_assoc, length-append}
use Rattle.std.proofs.Math.Nat.{mul-le-mul_right}
use Rattle.std.proofs.Math.Seq.{take-append_seam}
use Rattle.std.proofs.lemmas.Bool.{cases_lt, cases_order}
use Rattle.std.proofs.lemmas.List.{drop_at, drop-append-le, take-append-le, drop-take, take-take, length-take, length-drop, get_or-drop}
use Rattle.std.proofs.lemmas.List.{get_or-take, get_or_past, get_or-replicate, length-replicate}
use Rattle.std.proofs.lemmas.Slice.{drop-append-drop}
use Rattle.lfs_block.specs.Bytes.{IsBytes}
use Rattle.lfs_block.specs.Disk.{Disk, IsDisk, block_of, put}

block-ends : (d : Disk) (n : ℕ) → IsDisk d → n < d.count → n * d.size + d.size ≤ length d.bytes
block-ends d n disk within =
    let most : (n + 1) * d.size ≤ d.count * d.size = mul-le-mul_right d.size (omega arith) in
    omega (arith, most, disk.len)

-- the block that was put
pub block_of-put : (d : Disk) (n : ℕ) (new : List ℕ) → IsDisk d → n < d.count → length new ≡ d.size → block_of (put n new d) n ≡ new
block_of-put d n new disk within len =
    let at : ℕ = n * d.size in
    let front : List ℕ = take at d.bytes in
    let rest : List ℕ = drop (at + length new) d.bytes in
    let front_len : length front ≡ at = omega (arith, length-take at d.bytes, block-ends d n disk within) in
    ap (λ (xs : List ℕ). take d.size (drop at xs)) (append_assoc front new rest)
    ∙ ap (take d.size) (drop_at front (new ++ rest) at front_len)
    ∙ ap (λ (k : ℕ). take k (new ++ rest)) (sym len)
    ∙ take-append_seam new rest

-- a block within the front
pub slice-before : (size at from : ℕ) (bytes more : List ℕ) → from + size ≤ at → at ≤ length bytes
    → take size (drop from (take at bytes ++ more)) ≡ take size (drop from bytes)
slice-before size at from bytes more le within =
    let front_len : length (take at bytes) ≡ at = omega (arith, length-take at bytes) in
    let left_len : length (drop from (take at bytes)) ≡ at - from = omega (arith, length-drop from (take at bytes), front_len) in
    let complete : at ≡ from + (at - from) = omega arith in
    ap (take size) (drop-append-le from (take at bytes) more (omega (arith, front_len)))
    ∙ take-append-le size (drop from (take at bytes)) more (omega (arith, left_len))
    ∙ ap (λ (k : ℕ). take size (drop from (take k bytes))) complete
    ∙ ap (take size) (drop-take from (at - from) bytes)
    ∙ take-take size (at - from) (drop from bytes) (omega arith)

-- the other blocks
pub block_of-put_other : (d : Disk) (n m : ℕ) (new : List ℕ) → IsDisk d → n < d.count → m ≢ n → length new ≡ d.size
    → block_of (put n new d) m ≡ block_of d m
block_of-put_other d n m new disk within other len =
    let at : ℕ = n * d.size in
    let front : List ℕ = take at d.bytes in
    let rest : List ℕ = drop (at + length new) d.bytes in
    let front_len : length front ≡ at = omega (arith, length-take at d.bytes, block-ends d n disk within) in
    elim (cases_order m n) [
      | inl same ↦ absurd (other same)
      | inr apart ↦ elim apart [
        | inl less ↦
            let ends : (m + 1) * d.size ≤ n * d.size = mul-le-mul_right d.size (omega arith) in
            ap (λ (xs : List ℕ). take d.size (drop (m * d.size) xs)) (append_assoc front new rest)
            ∙ slice-before d.size at (m * d.size) d.bytes (new ++ rest) (omega (arith, ends)) (omega (arith, block-ends d n disk within))
        | inr more ↦
            let ends : (n + 1) * d.size ≤ m * d.size = mul-le-mul_right d.size (omega arith) in
            ap (take d.size)
            (drop-append-drop (at + length new) d.bytes (front ++ new) (m * d.size) (omega (arith, ends, len))
            (omega (arith, length-append front new, front_len)))
      ]
    ]

pub IsBytes-drop : (n : ℕ) (bytes : List ℕ) → IsBytes bytes → IsBytes (drop n bytes)
IsBytes-drop n bytes h i = rw get_or-drop (h (n + i))

pub IsBytes-take : (n : ℕ) (bytes : List ℕ) → IsBytes bytes → IsBytes (take n bytes)
IsBytes-take n bytes h i =
    elim (cases_lt i n) [
      | inl lt ↦ rw (get_or-take n bytes i 0 lt) (h i)
      | inr le ↦ rw (get_or_past (take n bytes) i 0 (omega (arith, length-take n bytes))) (omega arith)
    ]

pub IsBytes-append : (xs ys : List ℕ) → IsBytes xs → IsBytes ys → IsBytes (xs ++ ys)
IsBytes-append [] ys hx hy i = hy i
IsBytes-append (x ∷ xs) ys hx hy zero = hx 0
IsBytes-append (x ∷ xs) ys hx hy (suc i) = IsBytes-append xs ys (λ j. hx (suc j)) hy i

pub IsBytes-replicate : (n byte : ℕ) → byte < 256 → IsBytes (replicate n byte)
IsBytes-replicate n byte small i =
    elim (cases_lt i n) [
      | inl lt ↦ rw (get_or-replicate n i byte 0 lt) small
      | inr le ↦ rw (get_or_past (replicate n byte) i 0 (omega (arith, length-replicate n byte))) (omega arith)
    ]

-- and it is a disk again
pub put-is_disk : (d : Disk) (n : ℕ) (new : List ℕ) → IsDisk d → n < d.count → length new ≡ d.size → IsBytes new → IsDisk (put n new d)
put-is_disk d n new disk within len bytes =
    let at : ℕ = n * d.size in
    let front : List ℕ = take at d.bytes in
    let rest : List ℕ = drop (at + length new) d.bytes in
    record {
      geometry = disk.geometry;
      len = omega (
        arith,
        length-append (front ++ new) rest,
        length-append front new,
        length-take at d.bytes,
        length-drop (at + length new) d.bytes,
        block-ends d n disk within,
        disk.len,
      );
      bytes = IsBytes-append (front ++ new) rest
          (IsBytes-append front new (IsBytes-take at d.bytes disk.bytes) bytes)
          (IsBytes-drop (at + length new) d.bytes disk.bytes);
    }
