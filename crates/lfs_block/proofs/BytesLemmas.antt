-- Images, and the bytes that they are.
use Rattle.std.proofs.Common.{◌≡◌, ◌*◌, ◌/◌, ◌<◌, ℕ, List, add-zero, length, sym, ap, ap₂, subst, ◌∙◌, arith}
use Rattle.std.proofs.lemmas.Nat.{div-mul-add}
use Rattle.lfs_block.specs.Disk.{Disk, IsDisk, image_of}

-- an image is what its bytes are
pub image_of_disk : (d : Disk) → IsDisk d → image_of d.size d.bytes ≡ d
image_of_disk d is =
    let positive : 0 < d.size = omega (arith, is.geometry.size_fits.0) in
    let count : length d.bytes / d.size ≡ d.count = ap (λ n. n / d.size) is.len ∙ ap (λ n. n / d.size) (sym (add-zero (d.count * d.size)))
    ∙ div-mul-add d.count d.size 0 positive in
    ap (λ n. let disk : Disk = record { size = d.size; count = n; bytes = d.bytes } in disk) count

-- what holds of it holds of the image that its bytes are
pub at_bytes : (d : Disk) (size : ℕ) (bytes : List ℕ) (P : Disk → Type 0) → IsDisk d → d.size ≡ size → d.bytes ≡ bytes → P d
    → P (image_of size bytes)
at_bytes d size bytes P is sizes same holds = subst P (sym (image_of_disk d is) ∙ ap₂ image_of sizes same) holds
