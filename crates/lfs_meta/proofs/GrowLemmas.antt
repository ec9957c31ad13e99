-- Blank entries added one after another.
use Rattle.std.proofs.Common.{◌≡◌, ℕ, ◌+◌, ◌-◌, ◌<◌, ◌≤◌, List, [], ◌∷◌, ◌++◌, length, ap, sym, ◌∙◌, arith, suc, append_assoc, append-nil}
use Rattle.std.proofs.Common.{length-append}
use Rattle.std.specs.Prelude.{replicate}
use Rattle.lfs_meta.specs.Entry.{RawEntry, blank}
use Rattle.lfs_meta.specs.Replay.{up_to}

filled : (xs : List RawEntry) (n m : ℕ) → n ≡ suc m → xs ++ replicate n blank ≡ (xs ++ (blank ∷ [])) ++ replicate m blank
filled xs n m e = ap (λ k. xs ++ replicate k blank) e ∙ sym (append_assoc xs (blank ∷ []) (replicate m blank))

-- one more
pub up_to-more : (i : ℕ) (xs : List RawEntry) → length xs ≤ i → up_to i (xs ++ (blank ∷ [])) ≡ up_to i xs
up_to-more i xs few =
    let grown : length (xs ++ (blank ∷ [])) ≡ length xs + 1 = length-append xs (blank ∷ []) in
    let left : i + 1 - length xs ≡ suc (i + 1 - length (xs ++ (blank ∷ []))) = omega (arith, grown) in
    sym (filled xs (i + 1 - length xs) (i + 1 - length (xs ++ (blank ∷ []))) left)

-- none are wanted
pub up_to-all : (i : ℕ) (xs : List RawEntry) → i < length xs → up_to i xs ≡ xs
up_to-all i xs many =
    let none : i + 1 - length xs ≡ 0 = omega arith in
    ap (λ k. xs ++ replicate k blank) none ∙ append-nil xs
