-- The bytes of an image, copied block by block.
use Rattle.std.proofs.Common.{◌≡◌, ℕ, ◌+◌, ◌*◌, ◌/◌, ◌%◌, List, ◌++◌, length, take, inl, inr, ap, sym, ◌∙◌, arith, subst}
use Rattle.std.proofs.Math.Nat.{mul-mod_left}
use Rattle.std.proofs.Math.Seq.{take-add}
use Rattle.std.proofs.lemmas.List.{take_all}
use Rattle.lfs_block.specs.Disk.{Disk, IsDisk, block_of, image_of}
use Rattle.lfs_block.specs.Geometry.{IsGeometry}
use Rattle.lfs_block.specs.ImageFault.{IsNoImage}
use Rattle.lfs_block.specs.declared.image_fault.ImageFault.{ImageFault}
use Rattle.lfs_block.specs.declared.image_fault.ImageFault.TheVariants.{ImageLength, BadGeometry}
use Rattle.lfs_block.proofs.BytesLemmas.{image_of_disk}

-- one block more
pub copied_more : (d : Disk) (n : ℕ) (now new : List ℕ) → now ≡ take (n * d.size) d.bytes → new ≡ now ++ block_of d n
    → new ≡ take ((n + 1) * d.size) d.bytes
copied_more d n now new copied push =
    let sum : (n + 1) * d.size ≡ n * d.size + d.size = omega arith in
    push ∙ ap (λ (bs : List ℕ). bs ++ block_of d n) copied ∙ sym (take-add (n * d.size) d.size d.bytes)
    ∙ ap (λ (m : ℕ). take m d.bytes) (sym sum)

-- all blocks
pub copied_all : (d : Disk) (n : ℕ) (bytes : List ℕ) → IsDisk d → n ≡ d.count → bytes ≡ take (n * d.size) d.bytes → bytes ≡ d.bytes
copied_all d n bytes is all copied =
    copied ∙ ap (λ (m : ℕ). take (m * d.size) d.bytes) all ∙ take_all (d.count * d.size) d.bytes (omega (arith, is.len))

-- these bytes are an image
pub copy_is_image : (d : Disk) (bytes : List ℕ) (fault : ImageFault) → IsDisk d → bytes ≡ d.bytes → IsNoImage fault d.size bytes → ⊥
copy_is_image d bytes ImageLength is same none =
    none.1 (ap (λ (n : ℕ). n % d.size) (ap length same ∙ is.len) ∙ mul-mod_left d.count d.size)
copy_is_image d bytes BadGeometry is same (inl size) = size is.geometry.size_fits
copy_is_image d bytes BadGeometry is same (inr geometry) =
    geometry.1 (subst (λ (n : ℕ). IsGeometry d.size n)
    (sym (ap (λ (n : ℕ). n / d.size) (ap length same) ∙ ap (λ (x : Disk). x.count) (image_of_disk d is))) is.geometry)

-- and the same one
pub copy_is_same : (d e : Disk) → IsDisk d → IsDisk e → e.size ≡ d.size → e.bytes ≡ d.bytes → e ≡ d
copy_is_same d e is other size bytes =
    sym (image_of_disk e other) ∙ ap (λ (n : ℕ). image_of n e.bytes) size ∙ ap (image_of d.size) bytes ∙ image_of_disk d is
