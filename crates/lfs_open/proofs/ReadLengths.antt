-- Bytes that are read of others are no more than these.
use Rattle.std.proofs.Common.{◌≡◌, ◌∙◌, ◌≤◌, ◌*◌, ◌/◌, ◌%◌, ℕ, Bool, true, false, List, Option, Some, None, ap, arith, inl, inr, length}
use Rattle.std.proofs.Common.{length-take, min, subst, sym, take}
use Rattle.std.proofs.Math.Nat.{mul-mod_left}
use Rattle.std.specs.Option.{option_map_or}
use Rattle.std.specs.Prelude.{◌==◌, if◌then◌else◌}
use Rattle.lfs_block.specs.Disk.{Disk, IsDisk, image_of}
use Rattle.lfs_block.specs.Geometry.{IsGeometry}
use Rattle.lfs_block.specs.ImageFault.{IsNoImage}
use Rattle.lfs_block.specs.declared.image_fault.ImageFault.{ImageFault}
use Rattle.lfs_block.specs.declared.image_fault.ImageFault.TheVariants.{ImageLength, BadGeometry}
use Rattle.lfs_block.proofs.BytesLemmas.{image_of_disk}
use Rattle.lfs_fs.specs.Reading.{reading_of}
use Rattle.lfs_lower.specs.Own.{IsOwnPart, count_stated, own_part}
use Rattle.lfs_settle.specs.ByDevice.{IsReadByDevice}
use Rattle.lfs_settle.specs.ReadAs.{IsReadAs}
use Rattle.lfs_settle.specs.Within.{complete_blocks}
use Rattle.lfs_open.specs.ReadBy.{IsReadFrom}

-- ---- what is read

-- as a device does: as many
by_device_long : (size : ℕ) (old new : List ℕ) → IsReadByDevice size old new → length new ≤ length old
by_device_long size old new (inl (is, (f, relaid, same))) =
    let d : Disk = image_of size old in
    let counts : f.count ≡ d.count = relaid.joined.count ∙ relaid.settled.count in
    let sizes : f.size ≡ size = relaid.joined.size ∙ relaid.settled.size in
    let long : length new ≡ length old =
    ap length same ∙ relaid.joined.disk.len ∙ ap (λ n. n * f.size) counts ∙ ap (λ n. d.count * n) sizes ∙ sym is.len in
    omega arith
by_device_long size old new (inr (fault, why, same)) =
    let long : length new ≡ length old = ap length same in
    omega arith

read_as_long : (by_device : Bool) (size : ℕ) (old new : List ℕ) → IsReadAs by_device size old new → length new ≤ length old
read_as_long true size old new read = by_device_long size old new read
read_as_long false size old new same =
    let long : length new ≡ length old = ap length same in
    omega arith

-- a beginning
take_long : (n : ℕ) (bytes : List ℕ) → length (take n bytes) ≤ length bytes
take_long n bytes = omega (arith, length-take n bytes)

complete_blocks_long : (size : ℕ) (bytes : List ℕ) → length (complete_blocks size bytes) ≤ length bytes
complete_blocks_long size bytes = go (size == 0)
  where
    go : (b : Bool) → length (if b then bytes else take (min (length bytes / size) 65536 * size) bytes) ≤ length bytes
    go true = omega arith
    go false = take_long (min (length bytes / size) 65536 * size) bytes

own_part_long : (d : Disk) → length (own_part d) ≤ length d.bytes
own_part_long d = go (count_stated (reading_of d))
  where
    go : (stated : Option ℕ) → length (option_map_or (λ count. take (count * d.size) d.bytes) stated d.bytes) ≤ length d.bytes
    go None = omega arith
    go (Some count) = take_long (count * d.size) d.bytes

own_long : (size : ℕ) (bytes own : List ℕ) → IsOwnPart size bytes own → length own ≤ length bytes
own_long size bytes own (inl (is, same)) =
    let long : length own ≡ length (own_part (image_of size bytes)) = ap length same in
    omega (arith, own_part_long (image_of size bytes))
own_long size bytes own (inr (fault, why, same)) =
    let long : length own ≡ length bytes = ap length same in
    omega arith

-- from any place on, in any manner
pub read_long : (place : Option ℕ) (by_device : Bool) (size : ℕ) (old new : List ℕ) → IsReadFrom place by_device size old new
    → length new ≤ length old
read_long None by_device size old new read = read_as_long by_device size old new read
read_long (Some place) by_device size old new (complete, read, own) =
    let first : length (complete_blocks size old) ≤ length old = complete_blocks_long size old in
    let second : length complete ≤ length (complete_blocks size old) = read_as_long by_device size (complete_blocks size old) complete read in
    let third : length new ≤ length complete = own_long size complete new own in
    omega arith

-- ---- bytes that are kept

-- those that are as many as the bytes of an image are one
pub like_no_fault : (d : Disk) (bytes : List ℕ) (fault : ImageFault) → IsDisk d → length bytes ≡ length d.bytes
    → IsNoImage fault d.size bytes → ⊥
like_no_fault d bytes ImageLength is same none = none.1 (ap (λ (n : ℕ). n % d.size) (same ∙ is.len) ∙ mul-mod_left d.count d.size)
like_no_fault d bytes BadGeometry is same (inl size) = size is.geometry.size_fits
like_no_fault d bytes BadGeometry is same (inr geometry) =
    geometry.1 (subst (λ (n : ℕ). IsGeometry d.size n)
    (sym (ap (λ (n : ℕ). n / d.size) same ∙ ap (λ (x : Disk). x.count) (image_of_disk d is))) is.geometry)
