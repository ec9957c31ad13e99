-- Laid blocks on a disk are the chain of their file.
use Rattle.std.proofs.Common.{◌≡◌, ℕ, zero, suc, ◌+◌, ◌-◌, ◌*◌, ◌^◌, ◌<◌, ◌≤◌, min, List, [], ◌∷◌, ◌++◌, length, map, take, drop, replicate}
use Rattle.std.proofs.Common.{get_or, refl, sym, ap, ◌∙◌, subst, inl, inr, arith, add-one, zero-add, slice_index, All, Some}
use Rattle.std.specs.List.{range_with_len, concat}
use Rattle.std.proofs.Math.Seq.{take-add}
use Rattle.std.proofs.lemmas.List.{append-nil, get_or-map, length-take, length-drop, take_all}
use Rattle.std.proofs.lemmas.List.FromFn.{get_or-map-range_with_len, length-map-range_with_len, map-range_with_len_more}
use Rattle.std.proofs.lemmas.List.Elements.{All-from_get_or}
use Rattle.std.proofs.lemmas.List.Folds.{concat-append}
use Rattle.std.proofs.lemmas.Bool.{cases_lt}
use Rattle.lfs_block.specs.Disk.{Disk, IsDisk, block_of}
use Rattle.lfs_block.specs.Geometry.{IsBlockSize}
use Rattle.lfs_file.specs.Capacity.{IsLeast, capacity, pointers, bytes_of_blocks}
use Rattle.lfs_file.specs.Content.{data_part, content}
use Rattle.lfs_file.specs.Laying.{IsLaid, filled, laid, share_of}
use Rattle.lfs_file.specs.Pointer.{pointer}
use Rattle.lfs_file.specs.SkipList.{IsChain, chain_of}
use Rattle.lfs_file.proofs.CapacityLemmas.{least_blocks-is, room_more}
use Rattle.lfs_file.proofs.ContentLemmas.{length-parts}
use Rattle.lfs_file.proofs.LayingLemmas.{data-filled, length-filled, part_fits, pointer-filled}
use Rattle.lfs_file.proofs.SliceLemmas.{concat-cons, take-append}
use Rattle.lfs_file.proofs.WalkLemmas.{chain-found}

pub length-laid : (size : ℕ) (bytes blocks : List ℕ) → length (laid size bytes blocks) ≡ length blocks
unfolding laid
length-laid size bytes blocks = length-map-range_with_len (λ n. filled size (share_of size bytes n) blocks n) 0 (length blocks)

-- laid block n
pub get_or-laid : (size : ℕ) (bytes blocks : List ℕ) (n : ℕ) → n < length blocks
    → get_or (laid size bytes blocks) n [] ≡ filled size (share_of size bytes n) blocks n
unfolding laid
get_or-laid size bytes blocks n within = get_or-map-range_with_len (λ n. filled size (share_of size bytes n) blocks n) 0
    (length blocks) n n [] within (zero-add n)

pub laid-complete_blocks : (size : ℕ) (bytes blocks : List ℕ) → IsBlockSize size → All (λ block. length block ≡ size) (laid size bytes blocks)
laid-complete_blocks size bytes blocks fits =
    All-from_get_or (λ block. length block ≡ size) (laid size bytes blocks) []
    (λ n within. ap length (get_or-laid size bytes blocks n (omega (arith, within, length-laid size bytes blocks)))
    ∙ length-filled size n (share_of size bytes n) blocks (omega (arith, fits.0)) (part_fits size n bytes))

-- what block n of the disk has
on_disk : (d : Disk) (head : ℕ) (bytes blocks : List ℕ) → IsLaid d head bytes blocks → (n : ℕ) → n < length blocks
    → block_of d (slice_index blocks n) ≡ filled d.size (share_of d.size bytes n) blocks n
on_disk d head bytes blocks is n within =
    sym (get_or-map (block_of d) blocks n 0 [] within) ∙ ap (λ all. get_or all n []) is.same ∙ get_or-laid d.size bytes blocks n within

pub laid-chain : (d : Disk) (head : ℕ) (bytes blocks : List ℕ) → IsDisk d → IsLaid d head bytes blocks
    → IsChain d head (length bytes) blocks
laid-chain d head bytes blocks disk is = record {
  least = subst (λ (n : ℕ). IsLeast d.size (length bytes) n) (sym is.count)
      (least_blocks-is d.size (length bytes) (omega (arith, disk.geometry.size_fits.0)));
  last = is.last;
  below = is.below;
  apart = is.apart;
  back = λ n i later within lt.
      ap (λ block. pointer block i) (on_disk d head bytes blocks is n within)
      ∙ pointer-filled d.size n i (share_of d.size bytes n) blocks lt (omega
      (arith, is.below (n - 2 ^ i) 0 (omega (arith, within)), disk.geometry.count_fits.1));
}

pub laid-found : (d : Disk) (head : ℕ) (bytes blocks : List ℕ) → IsDisk d → IsLaid d head bytes blocks
    → chain_of d head (length bytes) ≡ Some blocks
laid-found d head bytes blocks disk is =
    chain-found d head (length bytes) blocks (omega (arith, disk.geometry.size_fits.0)) (laid-chain d head bytes blocks disk is)

-- of a part with what fills its block, the file has the part
cut_part : (k held : ℕ) (rest part fill : List ℕ) → length rest ≡ k → part ≡ take held rest → fill ≡ replicate (held - length part) 0xff
    → take k (part ++ fill) ≡ part
cut_part k held rest part fill long is fills =
    let parted : length part ≡ min held (length rest) = ap length is ∙ length-take held rest in
    take-append k part fill
    ∙ ap (λ xs. xs ++ take (k - length part) fill) (take_all k part (omega (arith, parted, long)))
    ∙ ap (λ xs. part ++ xs)
    (elim (cases_lt k held) [
      | inl last ↦ let none : k - length part ≡ 0 = omega (arith, parted, long, last) in ap (λ m. take m fill) none
      | inr full ↦
          let none : held - length part ≡ 0 = omega (arith, parted, long, full) in
          ap (take (k - length part)) (fills ∙ ap (λ m. replicate m 0xff) none) ∙ take_all (k - length part) [] (omega arith)
    ])
    ∙ append-nil part

-- the first n blocks hold the front of the file
front_held : (d : Disk) (head : ℕ) (bytes blocks : List ℕ) → IsDisk d → IsLaid d head bytes blocks → (n : ℕ) → n ≤ length blocks
    → take (length bytes) (concat (map (data_part d blocks) (range_with_len 0 n))) ≡ take (bytes_of_blocks d.size n) bytes
front_held d head bytes blocks disk is zero within = take_all (length bytes) [] (omega arith)
front_held d head bytes blocks disk is (suc n) within =
    let size = d.size in
    let len = length bytes in
    let front = concat (map (data_part d blocks) (range_with_len 0 n)) in
    let next = data_part d blocks n in
    let part = share_of size bytes n in
    let fill : List ℕ = replicate (capacity size n - length part) 0xff in
    let number : n + 1 ≡ suc n = add-one n in
    let earlier : take len front ≡ take (bytes_of_blocks size n) bytes = front_held d head bytes blocks disk is n (omega (arith, within)) in
    let held : length front ≡ bytes_of_blocks size n = length-parts d blocks n disk is.below (omega (arith, within)) in
    let here : next ≡ part ++ fill = ap (drop (4 * pointers n)) (on_disk d head bytes blocks is n (omega (arith, within)))
    ∙ data-filled size n part blocks in
    let complete : concat (map (data_part d blocks) (range_with_len 0 (n + 1))) ≡ front ++ next =
    ap concat (map-range_with_len_more (data_part d blocks) 0 n n (omega arith))
    ∙ concat-append (map (data_part d blocks) (range_with_len 0 n)) (next ∷ [])
    ∙ ap (λ xs. front ++ xs) (concat-cons next [] ∙ append-nil next) in
    let all : take len (concat (map (data_part d blocks) (range_with_len 0 (n + 1)))) ≡ take (bytes_of_blocks size (n + 1)) bytes =
    ap (take len) complete ∙ take-append len front next
    ∙ ap (λ xs. xs ++ take (len - length front) next) earlier
    ∙ ap (λ xs. take (bytes_of_blocks size n) bytes ++ xs) (ap (λ k. take (len - k) next) held ∙ ap (take (len - bytes_of_blocks size n)) here
    ∙ cut_part (len - bytes_of_blocks size n) (capacity size n) (drop (bytes_of_blocks size n) bytes) part fill (length-drop (bytes_of_blocks size n) bytes) refl refl)
    ∙ sym (take-add (bytes_of_blocks size n) (capacity size n) bytes) ∙ ap (λ k. take k bytes) (sym (room_more size n)) in
    rw number at all

pub laid-content : (d : Disk) (head : ℕ) (bytes blocks : List ℕ) → IsDisk d → IsLaid d head bytes blocks
    → content d (length bytes) blocks ≡ bytes
unfolding content
laid-content d head bytes blocks disk is =
    front_held d head bytes blocks disk is (length blocks) (omega arith)
    ∙ take_all (bytes_of_blocks d.size (length blocks)) bytes (laid-chain d head bytes blocks disk is).least.0
