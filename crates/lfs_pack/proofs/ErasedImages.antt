-- Bytes that are erased are an image of a geometry.
use Rattle.std.proofs.Common.{◌≡◌, ◌+◌, ◌-◌, ◌*◌, ◌/◌, ◌%◌, ◌<◌, ◌≤◌, ℕ, List, length, take, drop, ap, sym, ◌∙◌, subst, arith}
use Rattle.std.proofs.Common.{inl, inr, add-zero}
use Rattle.std.specs.Prelude.{replicate}
use Rattle.std.proofs.Math.Nat.{eq_of_mul-eq-mul_right, mul-le-mul_right, mul-mod_left}
use Rattle.std.proofs.lemmas.List.{drop-replicate, length-replicate, take-replicate}
use Rattle.std.proofs.lemmas.Nat.{div-mul-add}
use Rattle.lfs_block.specs.Bytes.{IsBytes}
use Rattle.lfs_block.specs.Disk.{Disk, IsDisk, block_of}
use Rattle.lfs_block.specs.Geometry.{IsGeometry}
use Rattle.lfs_block.specs.ImageFault.{IsNoImage}
use Rattle.lfs_block.specs.declared.image_fault.ImageFault.{ImageFault}
use Rattle.lfs_block.specs.declared.image_fault.ImageFault.TheVariants.{ImageLength, BadGeometry}
use Rattle.lfs_file.proofs.LaidByteLemmas.{IsBytes-fill}
use Rattle.lfs_pack.specs.Unwritten.{IsErasedImage}

-- ---- they are no fault

-- bytes that are an image are none
complete : (d : Disk) → IsDisk d → (length d.bytes % d.size ≡ 0) × (length d.bytes / d.size ≡ d.count)
complete d is =
    let positive : 0 < d.size = omega (arith, is.geometry.size_fits.0) in
    let plain : length d.bytes ≡ d.count * d.size + 0 = is.len ∙ sym (add-zero (d.count * d.size)) in (
      ap (λ (n : ℕ). n % d.size) is.len ∙ mul-mod_left d.count d.size,
      ap (λ (n : ℕ). n / d.size) plain ∙ div-mul-add d.count d.size 0 positive,
    )

no_fault : (d : Disk) (fault : ImageFault) → IsDisk d → IsNoImage fault d.size d.bytes → ⊥
no_fault d ImageLength is none = none.1 (complete d is).0
no_fault d BadGeometry is none = elim none [
  | inl size ↦ size is.geometry.size_fits
  | inr geometry ↦ geometry.1 (subst (λ (n : ℕ). IsGeometry d.size n) (sym (complete d is).1) is.geometry)
]

module _ (size count : ℕ) (bytes : List ℕ) (fits : IsGeometry size count) (are : bytes ≡ replicate (size * count) 0xff) where
  len : length bytes ≡ count * size
  len = ap (λ (bs : List ℕ). length bs) are ∙ length-replicate (size * count) 255 ∙ omega arith

  pub never_fails : (fault : ImageFault) → IsNoImage fault size bytes → ⊥
  never_fails fault none =
      no_fault (record { size = size; count = count; bytes = bytes }) fault
      (record { geometry = fits; len = len; bytes = subst IsBytes (sym are) (IsBytes-fill (size * count)) }) none

-- ---- its blocks are erased

module _ (d : Disk) (n : ℕ) (disk : IsDisk d) (are : d.bytes ≡ replicate n 0xff) where
  long : n ≡ d.count * d.size
  long = sym (length-replicate n 255) ∙ ap (λ (bs : List ℕ). length bs) (sym are) ∙ disk.len

  all_erased : (b : ℕ) → b < d.count → block_of d b ≡ replicate d.size 0xff
  all_erased b lt =
      let above : b + 1 ≤ d.count = omega (arith, lt) in
      let more : (b + 1) * d.size ≤ d.count * d.size = mul-le-mul_right d.size above in
      ap (λ (bs : List ℕ). take d.size (drop (b * d.size) bs)) are
      ∙ ap (take d.size) (drop-replicate (b * d.size) n 255)
      ∙ take-replicate d.size (n - b * d.size) 255 (omega (arith, more, long))

  pub is_erased : (size count : ℕ) → d.size ≡ size → n ≡ size * count → IsErasedImage size count d
  is_erased size count same is = record {
    disk = disk;
    size_is = same;
    count_is =
        let positive : 0 < d.size = omega (arith, disk.geometry.size_fits.0) in
        let product : count * d.size ≡ size * count = ap (λ (s : ℕ). count * s) same ∙ omega arith in
        eq_of_mul-eq-mul_right d.size positive d.count count (sym long ∙ is ∙ sym product);
    erased = all_erased;
  }
