-- The content of a file: what it depends on, and its length.
use Rattle.std.proofs.Common.{◌≡◌, ℕ, zero, suc, ◌+◌, ◌-◌, ◌*◌, ◌<◌, ◌≤◌, List, [], length, map, take, drop, All, refl, sym, ap, ◌∙◌, arith}
use Rattle.std.proofs.Common.{add-one, zero-add, slice_index}
use Rattle.std.specs.List.{range_with_len, sum_by, concat}
use Rattle.std.proofs.lemmas.List.{length-take-le, length-drop}
use Rattle.std.proofs.lemmas.List.Concat.{concat_is, length-flat_map}
use Rattle.std.proofs.lemmas.List.FromFn.{fill_by_all, length-map-range_with_len, get_or-map-range_with_len, sum_by-map-range_with_len_more}
use Rattle.lfs_block.specs.Disk.{Disk, IsDisk, block_of}
use Rattle.lfs_block.proofs.BlockLens.{length-block}
use Rattle.lfs_file.specs.Capacity.{pointers, capacity, bytes_of_blocks}
use Rattle.lfs_file.specs.Content.{data_part, content}
use Rattle.lfs_file.specs.Laws.{AgreeOn}
use Rattle.lfs_file.specs.SkipList.{IsChain}
use Rattle.lfs_file.proofs.CapacityLemmas.{room_more}

same_parts : (f g : ℕ → List ℕ) (n : ℕ) → ((k : ℕ) → k < n → f k ≡ g k) → map f (range_with_len 0 n) ≡ map g (range_with_len 0 n)
same_parts f g n same =
    fill_by_all g (map f (range_with_len 0 n)) n [] (length-map-range_with_len f 0 n)
    (λ k lt. get_or-map-range_with_len f 0 n k k [] lt (zero-add k) ∙ same k lt)

pub content-stays : (d e : Disk) (len : ℕ) (blocks : List ℕ) → AgreeOn blocks d e → content d len blocks ≡ content e len blocks
unfolding content
content-stays d e len blocks agree =
    ap (λ parts. take len (concat parts))
    (same_parts (data_part d blocks) (data_part e blocks) (length blocks) (λ n within. ap (drop (4 * pointers n)) (agree.same n 0 within)))

part_len : (d : Disk) (blocks : List ℕ) (n : ℕ) → IsDisk d → slice_index blocks n < d.count
    → length (data_part d blocks n) ≡ capacity d.size n
part_len d blocks n is below =
    length-drop (4 * pointers n) (block_of d (slice_index blocks n)) ∙ ap (λ l. l - 4 * pointers n)
    (length-block d (slice_index blocks n) is below)

-- the parts of the first n blocks are as long as the bytes_of_blocks in them
parts_len : (d : Disk) (blocks : List ℕ) (n : ℕ) → IsDisk d → All (λ b. b < d.count) blocks → n ≤ length blocks
    → sum_by length (map (data_part d blocks) (range_with_len 0 n)) ≡ bytes_of_blocks d.size n
parts_len d blocks zero is below within = refl
parts_len d blocks (suc n) is below within =
    let earlier : sum_by length (map (data_part d blocks) (range_with_len 0 n)) ≡ bytes_of_blocks d.size n =
    parts_len d blocks n is below (omega (arith, within)) in
    let last : length (data_part d blocks n) ≡ capacity d.size n = part_len d blocks n is (below n 0 (omega (arith, within))) in
    let more : sum_by length (map (data_part d blocks) (range_with_len 0 (n + 1)))
    ≡ sum_by length (map (data_part d blocks) (range_with_len 0 n)) + length (data_part d blocks n) =
    sum_by-map-range_with_len_more length (data_part d blocks) 0 n n (zero-add n) in
    let all : sum_by length (map (data_part d blocks) (range_with_len 0 (n + 1))) ≡ bytes_of_blocks d.size (n + 1) =
    more ∙ ap (λ s. s + length (data_part d blocks n)) earlier ∙ ap (λ l. bytes_of_blocks d.size n + l) last ∙ sym (room_more d.size n) in
    let number : n + 1 ≡ suc n = add-one n in
    rw number at all

-- joined too
pub length-parts : (d : Disk) (blocks : List ℕ) (n : ℕ) → IsDisk d → All (λ b. b < d.count) blocks → n ≤ length blocks
    → length (concat (map (data_part d blocks) (range_with_len 0 n))) ≡ bytes_of_blocks d.size n
length-parts d blocks n is below within =
    let parts = map (data_part d blocks) (range_with_len 0 n) in
    ap length (concat_is parts) ∙ length-flat_map (λ x. x) parts ∙ parts_len d blocks n is below within

pub length-content : (d : Disk) (head len : ℕ) (blocks : List ℕ) → IsDisk d → IsChain d head len blocks
    → length (content d len blocks) ≡ len
unfolding content
length-content d head len blocks is chain =
    let complete = length-parts d blocks (length blocks) is chain.below (omega arith) in
    length-take-le len (concat (map (data_part d blocks) (range_with_len 0 (length blocks)))) (omega (arith, complete, chain.least.0))
