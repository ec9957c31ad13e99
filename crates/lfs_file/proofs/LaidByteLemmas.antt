-- Laid blocks are bytes.
use Rattle.std.proofs.Common.{◌≡◌, ℕ, zero, suc, ◌+◌, ◌-◌, ◌^◌, List, [], ◌++◌, length, drop, replicate, sym, subst, arith}
use Rattle.std.proofs.Common.{add-one, slice_index, All}
use Rattle.std.specs.Int.{w32, to_le_bytes}
use Rattle.std.proofs.lemmas.List.Elements.{All-from_get_or}
use Rattle.lfs_block.specs.Bytes.{IsBytes}
use Rattle.lfs_block.proofs.PutLemmas.{IsBytes-drop, IsBytes-take, IsBytes-append}
use Rattle.lfs_file.specs.Capacity.{capacity, pointers, bytes_of_blocks}
use Rattle.lfs_file.specs.Laying.{filled, laid, laid_pointers, share_of}
use Rattle.lfs_file.proofs.LaidLemmas.{length-laid, get_or-laid}
use Rattle.lfs_file.proofs.LayingLemmas.{pointers-none, pointers-more}

pub IsBytes-fill : (n : ℕ) → IsBytes (replicate n 0xff)
IsBytes-fill zero i = omega arith
IsBytes-fill (suc n) zero = omega arith
IsBytes-fill (suc n) (suc i) = IsBytes-fill n i

IsBytes-word : (n : ℕ) → IsBytes (to_le_bytes w32 n)
IsBytes-word n zero = omega arith
IsBytes-word n (suc zero) = omega arith
IsBytes-word n (suc (suc zero)) = omega arith
IsBytes-word n (suc (suc (suc zero))) = omega arith
IsBytes-word n (suc (suc (suc (suc i)))) = omega arith

IsBytes-pointers : (blocks : List ℕ) (n k : ℕ) → IsBytes (laid_pointers blocks n k)
IsBytes-pointers blocks n zero = subst IsBytes (sym (pointers-none blocks n)) (λ i. omega arith)
IsBytes-pointers blocks n (suc k) =
    let number : k + 1 ≡ suc k = add-one k in
    rw number at (subst IsBytes (sym (pointers-more blocks n k))
    (IsBytes-append (laid_pointers blocks n k) (to_le_bytes w32 (slice_index blocks (n - 2 ^ k))) (IsBytes-pointers blocks n k)
    (IsBytes-word (slice_index blocks (n - 2 ^ k)))))

IsBytes-filled : (size n : ℕ) (part blocks : List ℕ) → IsBytes part → IsBytes (filled size part blocks n)
unfolding filled
IsBytes-filled size n part blocks all =
    IsBytes-append (laid_pointers blocks n (pointers n) ++ part) (replicate (capacity size n - length part) 0xff)
    (IsBytes-append (laid_pointers blocks n (pointers n)) part (IsBytes-pointers blocks n (pointers n)) all)
    (IsBytes-fill (capacity size n - length part))

pub laid-bytes : (size : ℕ) (bytes blocks : List ℕ) → IsBytes bytes → All IsBytes (laid size bytes blocks)
laid-bytes size bytes blocks all =
    All-from_get_or IsBytes (laid size bytes blocks) []
    (λ n within. subst IsBytes (sym (get_or-laid size bytes blocks n (omega (arith, within, length-laid size bytes blocks))))
    (IsBytes-filled size n (share_of size bytes n) blocks (IsBytes-take (capacity size n) (drop (bytes_of_blocks size n) bytes)
    (IsBytes-drop (bytes_of_blocks size n) bytes all))))
