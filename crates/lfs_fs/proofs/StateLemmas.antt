-- The global state as words.
use Rattle.std.proofs.Common.{◌≡◌, ℕ, ◌+◌, ◌*◌, ◌^◌, ◌<◌, List, [], ◌∷◌, ◌++◌, length, take, drop, refl, ap, sym, append-nil, ◌∙◌}
use Rattle.std.proofs.Common.{arith}
use Rattle.std.specs.Prelude.{bit_xor, replicate}
use Rattle.std.proofs.lemmas.List.{length-append}
use borrow.Rule.Slice.PartMut.{put_mid}
use Rattle.std.proofs.lemmas.Nat.{xor_block}
use Rattle.byteorder.specs.Endian.{little_number, little_bytes}
use Rattle.byteorder.specs.Numbers.{little_number-reads_back}
use Rattle.lfs_fs.specs.State.{little_endian}

-- twelve bytes are a word and two more
pub by_words : (bytes : List ℕ) → length bytes ≡ 12 → little_number 4 (take 4 bytes) + 2 ^ 32 * little_number 8 (take 8 (drop 4 bytes))
    ≡ little_endian bytes
by_words (a ∷ b ∷ c ∷ d ∷ e ∷ f ∷ g ∷ h ∷ i ∷ j ∷ k ∷ l ∷ []) is = omega arith
by_words _ is = omega arith

pub mixed : (w r f o : ℕ) → w < 2 ^ 32 → f < 2 ^ 32 → bit_xor (w + 2 ^ 32 * r) (f + 2 ^ 32 * o) ≡ bit_xor w f + 2 ^ 32 * bit_xor r o
mixed w r f o small less =
    let left : w + 2 ^ 32 * r ≡ r * 2 ^ 32 + w = omega arith in
    let right : f + 2 ^ 32 * o ≡ o * 2 ^ 32 + f = omega arith in
    let complete : bit_xor (r * 2 ^ 32 + w) (o * 2 ^ 32 + f) ≡ bit_xor r o * 2 ^ 32 + bit_xor w f = xor_block 32 r o w f small less in
    ap (λ x. bit_xor x (f + 2 ^ 32 * o)) left ∙ ap (λ x. bit_xor (r * 2 ^ 32 + w) x) right ∙ complete ∙ omega arith

-- words and what they spell
pub spelled : (word rest : ℕ) → word < 2 ^ 32 → rest < 2 ^ 64 → little_endian (little_bytes 4 word ++ little_bytes 8 rest)
    ≡ word + 2 ^ 32 * rest
spelled word rest small less =
    let first : little_number 4 (little_bytes 4 word) ≡ word = little_number-reads_back 4 word [] (omega arith) in
    let others : little_number 8 (little_bytes 8 rest) ≡ rest = little_number-reads_back 8 rest [] (omega arith) in
    sym (by_words (little_bytes 4 word ++ little_bytes 8 rest) refl) ∙ ap (λ n. n + 2 ^ 32 * little_number 8 (little_bytes 8 rest)) first
    ∙ ap (λ n. word + 2 ^ 32 * n) others

no_tail : (xs ys rest : List ℕ) → xs ≡ ys ++ rest → length xs ≡ length ys → xs ≡ ys
no_tail xs ys [] is len = is ∙ append-nil ys
no_tail xs ys (x ∷ rest) is len = absurd (omega (arith, ap (λ (l : List ℕ). length l) is, length-append ys (x ∷ rest)))

-- the same, where each is written over zeros
pub spelled_over : (word rest : ℕ) (first others left right : List ℕ) → first ≡ little_bytes 4 word ++ left → length first ≡ 4
    → others ≡ little_bytes 8 rest ++ right → length others ≡ length (take 8 (drop 4 (first ++ replicate 8 0)))
    → word < 2 ^ 32 → rest < 2 ^ 64 → little_endian (put_mid 4 8 (first ++ replicate 8 0) others) ≡ word + 2 ^ 32 * rest
spelled_over word rest first others left right first_is short others_are long small less =
    let same : first ≡ little_bytes 4 word = no_tail first (little_bytes 4 word) left first_is short in
    let eight : length others ≡ 8 = long ∙ ap (λ (l : List ℕ). length (take 8 (drop 4 (l ++ replicate 8 0)))) same in
    rw (same, no_tail others (little_bytes 8 rest) right others_are eight) (spelled word rest small less)
