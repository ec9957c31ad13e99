-- The blocks of a disk that is cut, or lengthened by erased blocks.
use Rattle.std.proofs.Common.{◌≡◌, ℕ, ◌+◌, ◌-◌, ◌*◌, ◌<◌, ◌≤◌, min, List, ◌++◌, length, nat_lt, replicate, take, drop, refl, ap, sym, ◌∙◌}
use Rattle.std.proofs.Common.{arith, inl, inr, append-nil, length-append}
use Rattle.std.proofs.Math.Nat.{mul-le-mul_right}
use Rattle.std.proofs.lemmas.Bool.{cases_lt, cond-true, cond-false, lt-ltb, le-ltb}
use Rattle.std.proofs.lemmas.List.{drop_at, drop-drop, drop-replicate, length-replicate, length-take, take_all, take_min, take-replicate}
use Rattle.lfs_block.specs.Disk.{Disk, IsDisk, block_at, block_of, erased_block, resized}
use Rattle.lfs_block.specs.PatchLaws.{ResizedIsDisk, ResizedBlocks, ResizedStays}
use Rattle.lfs_block.proofs.PutLemmas.{IsBytes-append, IsBytes-replicate, IsBytes-take, slice-before}

-- ---- a block of the disk that goes on

pub block_at-within : (d : Disk) (n : ℕ) → n < d.count → block_at d n ≡ block_of d n
block_at-within d n within = cond-true (nat_lt n d.count) (block_of d n) (erased_block d.size) (lt-ltb n d.count within)

pub block_at-behind : (d : Disk) (n : ℕ) → d.count ≤ n → block_at d n ≡ erased_block d.size
block_at-behind d n behind = cond-false (nat_lt n d.count) (block_of d n) (erased_block d.size) (le-ltb n d.count behind)

-- ---- the disk with another count

resized-len : (d : Disk) (count : ℕ) → length (resized count d).bytes ≡ count * d.size
resized-len d count =
    let most : ℕ = count * d.size in
    let gap : ℕ = most - length d.bytes in
    omega (
      arith,
      length-append (take most d.bytes) (replicate gap 0xff),
      length-take most d.bytes,
      length-replicate {A = ℕ} gap 0xff,
    )

pub resized-is_disk : ResizedIsDisk
resized-is_disk d count disk geometry =
    let most : ℕ = count * d.size in
    let gap : ℕ = most - length d.bytes in
    record {
      geometry = geometry;
      len = resized-len d count;
      bytes = IsBytes-append (take most d.bytes) (replicate gap 0xff) (IsBytes-take most d.bytes disk.bytes)
          (IsBytes-replicate gap 0xff (omega arith));
    }

-- a block of both disks
block-kept : (d : Disk) (count n : ℕ) → IsDisk d → n < count → n < d.count → block_of (resized count d) n ≡ block_of d n
block-kept d count n disk within has =
    let most : ℕ = count * d.size in
    let front : ℕ = min most (length d.bytes) in
    let fill : List ℕ = replicate (most - length d.bytes) 0xff in
    let ends : (n + 1) * d.size ≤ count * d.size = mul-le-mul_right d.size (omega arith) in
    let held : (n + 1) * d.size ≤ d.count * d.size = mul-le-mul_right d.size (omega arith) in
    ap (λ (xs : List ℕ). take d.size (drop (n * d.size) (xs ++ fill))) (sym (take_min most d.bytes))
    ∙ slice-before d.size front (n * d.size) d.bytes fill (omega (arith, ends, held, disk.len)) (omega arith)

-- what lies behind a front
drop-past : (front rest : List ℕ) (n : ℕ) → length front ≤ n → drop n (front ++ rest) ≡ drop (n - length front) rest
drop-past front rest n past =
    let on : length front + (n - length front) ≡ n = omega (arith, past) in
    ap (λ (k : ℕ). drop k (front ++ rest)) (sym on)
    ∙ sym (drop-drop (n - length front) (length front) (front ++ rest))
    ∙ ap (drop (n - length front)) (drop_at front rest (length front) refl)

-- a block that is added
block-added : (d : Disk) (count n : ℕ) → IsDisk d → n < count → d.count ≤ n → block_of (resized count d) n ≡ erased_block d.size
block-added d count n disk within behind =
    let most : ℕ = count * d.size in
    let gap : ℕ = most - length d.bytes in
    let from : ℕ = n * d.size - length d.bytes in
    let ends : (n + 1) * d.size ≤ count * d.size = mul-le-mul_right d.size (omega arith) in
    let starts : d.count * d.size ≤ n * d.size = mul-le-mul_right d.size behind in
    let complete : take most d.bytes ≡ d.bytes = take_all most d.bytes (omega (arith, ends, starts, disk.len)) in
    ap (λ (xs : List ℕ). take d.size (drop (n * d.size) (xs ++ replicate gap 0xff))) complete
    ∙ ap (take d.size) (drop-past d.bytes (replicate gap 0xff) (n * d.size) (omega (arith, starts, disk.len)))
    ∙ ap (take d.size) (drop-replicate from gap 0xff)
    ∙ take-replicate d.size (gap - from) 0xff (omega (arith, ends, starts, disk.len))

pub resized-block : (d : Disk) (count n : ℕ) → IsDisk d → n < count → block_of (resized count d) n ≡ block_at d n
resized-block d count n disk within =
    elim (cases_lt n d.count) [
      | inl has ↦ block-kept d count n disk within has ∙ sym (block_at-within d n has)
      | inr behind ↦ block-added d count n disk within behind ∙ sym (block_at-behind d n behind)
    ]

pub resized-blocks : ResizedBlocks
resized-blocks d count n disk =
    elim (cases_lt n count) [
      | inl within ↦
          block_at-within (resized count d) n within
          ∙ resized-block d count n disk within
          ∙ sym (cond-true (nat_lt n count) (block_at d n) (erased_block d.size) (lt-ltb n count within))
      | inr behind ↦
          block_at-behind (resized count d) n behind
          ∙ sym (cond-false (nat_lt n count) (block_at d n) (erased_block d.size) (le-ltb n count behind))
    ]

pub resized-stays : ResizedStays
resized-stays d disk =
    let most : ℕ = d.count * d.size in
    let complete : take most d.bytes ≡ d.bytes = take_all most d.bytes (omega (arith, disk.len)) in
    let none : most - length d.bytes ≡ 0 = omega (arith, disk.len) in
    let bytes : take most d.bytes ++ replicate (most - length d.bytes) 0xff ≡ d.bytes =
    ap (λ (xs : List ℕ). xs ++ replicate (most - length d.bytes) 0xff) complete
    ∙ ap (λ (k : ℕ). d.bytes ++ replicate k 0xff) none
    ∙ append-nil d.bytes in
    ap (λ (bs : List ℕ). record { size = d.size; count = d.count; bytes = bs }) bytes

pub stays-at : (d : Disk) (count : ℕ) → IsDisk d → count ≡ d.count → resized count d ≡ d
stays-at d count disk same = ap (λ (k : ℕ). resized k d) same ∙ resized-stays d disk
