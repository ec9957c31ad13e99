-- The blocks of a pair, lowered, as an image of two blocks.
use Rattle.std.proofs.Common.{◌≡◌, ℕ, ◌+◌, ◌*◌, ◌/◌, ◌%◌, ◌<◌, List, ◌++◌, length, take, drop, inl, inr, refl, ap, sym, ◌∙◌, subst, arith}
use Rattle.std.proofs.Math.Nat.{mul-mod_left}
use Rattle.std.proofs.lemmas.Nat.{div-mul-add}
use Rattle.std.specs.Prelude.{option_and_then}
use Rattle.std.proofs.Math.Seq.{take-append_seam, drop-append_seam}
use Rattle.std.proofs.lemmas.List.{length-append, take_all}
use Rattle.lfs_block.specs.Disk.{Disk, IsDisk, block_of}
use Rattle.lfs_block.specs.Geometry.{IsBlockSize, IsGeometry}
use Rattle.lfs_block.specs.ImageFault.{IsNoImage}
use Rattle.lfs_block.specs.declared.image_fault.ImageFault.{ImageFault}
use Rattle.lfs_block.specs.declared.image_fault.ImageFault.TheVariants.{ImageLength, BadGeometry}
use Rattle.lfs_meta.specs.Body.{Pair}
use Rattle.lfs_meta.specs.LiveBlock.{live_tags, stored_part_of}
use Rattle.lfs_meta.specs.Replay.{replay}
use Rattle.lfs_meta.specs.Complete.{complete_part}
use Rattle.lfs_lower.specs.LaterReading.{later_part_of}
use Rattle.lfs_lower.specs.Laws.{LivesAreRead, LoweredBlocksAreRead}
use Rattle.lfs_lower.specs.Spelled.{is_root_block, lowered_block}
use Rattle.lfs_lower.proofs.LoweredPairs.{lowered_len, lowered_tags_of}

-- ---- two blocks are an image

no_fault : (fault : ImageFault) (size : ℕ) (bytes : List ℕ) → IsBlockSize size → length bytes ≡ size + size → IsNoImage fault size bytes → ⊥
no_fault ImageLength size bytes fits len none = none.1 (ap (λ (n : ℕ). n % size) (omega (arith, len)) ∙ mul-mod_left 2 size)
no_fault BadGeometry size bytes fits len (inl unfit) = unfit fits
no_fault BadGeometry size bytes fits len (inr geometry) =
    let two : length bytes / size ≡ 2 =
    ap (λ (n : ℕ). n / size) (omega (arith, len)) ∙ div-mul-add 2 size 0 (omega (arith, fits.0)) in
    geometry.1 (subst (IsGeometry size) (sym two) (record {
      size_fits = fits;
      count_fits = (omega arith, omega arith);
      length_fits = omega (arith, fits.1);
    }))

-- ---- its blocks

first_of : (size : ℕ) (a b : List ℕ) → length a ≡ size → take size (drop (0 * size) (a ++ b)) ≡ a
first_of size a b len =
    let at : 0 * size ≡ 0 = omega arith in
    ap (λ (n : ℕ). take size (drop n (a ++ b))) at ∙ ap (λ (n : ℕ). take n (a ++ b)) (sym len) ∙ take-append_seam a b

second_of : (size : ℕ) (a b : List ℕ) → length a ≡ size → length b ≡ size → take size (drop (1 * size) (a ++ b)) ≡ b
second_of size a b len other_len =
    let at : 1 * size ≡ length a = omega (arith, len) in
    ap (λ (n : ℕ). take size (drop n (a ++ b))) at ∙ ap (take size) (drop-append_seam a b) ∙ take_all size b (omega (arith, other_len))

module _ (read : LoweredBlocksAreRead) (d : Disk) (pair : Pair) (disk : IsDisk d) (first : pair.0 < d.count) (second : pair.1 < d.count) where
  abbrev pub one : List ℕ
  one = lowered_block (is_root_block pair.0) (block_of d pair.0)

  abbrev pub other : List ℕ
  other = lowered_block (is_root_block pair.1) (block_of d pair.1)

  one_len : length one ≡ d.size
  one_len = lowered_len read d pair.0 one disk first refl

  other_len : length other ≡ d.size
  other_len = lowered_len read d pair.1 other disk second refl

  -- bytes that are both blocks are no other than an image
  pub both_fit : (fault : ImageFault) (bytes : List ℕ) → bytes ≡ one ++ other → IsNoImage fault d.size bytes → ⊥
  both_fit fault bytes is none =
      no_fault fault d.size bytes disk.geometry.size_fits (omega (arith, ap length is, length-append one other, one_len, other_len)) none

  -- what its pair holds is what version 2.1 reads of the other one
  pub both_read : LivesAreRead → (e : Disk) → e.size ≡ d.size → e.bytes ≡ one ++ other → stored_part_of e (0, 1) ≡ later_part_of d pair
  both_read lives e size bytes =
      let first_is : block_of e 0 ≡ one =
      ap (λ (n : ℕ). take n (drop (0 * n) e.bytes)) size ∙ ap (λ (xs : List ℕ). take d.size (drop (0 * d.size) xs)) bytes
      ∙ first_of d.size one other one_len in
      let second_is : block_of e 1 ≡ other =
      ap (λ (n : ℕ). take n (drop (1 * n) e.bytes)) size ∙ ap (λ (xs : List ℕ). take d.size (drop (1 * d.size) xs)) bytes
      ∙ second_of d.size one other one_len other_len in
      ap (λ (xs : List ℕ). option_and_then complete_part (option_and_then replay (live_tags xs (block_of e 1)))) first_is
      ∙ ap (λ (xs : List ℕ). option_and_then complete_part (option_and_then replay (live_tags one xs))) second_is
      ∙ lowered_tags_of lives d pair disk first second
