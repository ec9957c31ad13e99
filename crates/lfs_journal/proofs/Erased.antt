-- Bytes that are all 0xff are an erased block.
use Rattle.std.proofs.Common.{◌≡◌, ℕ, zero, suc, ◌≤◌, Bool, true, false, eqb, leb, ◌&&◌, not, List, [], ◌∷◌, length, refl, sym, ap, ◌∙◌}
use Rattle.std.proofs.lemmas.Bool.{eqb-true, leb-true, le-leb, and_parts}
use Rattle.lfs_block.specs.Disk.{erased_block}
use Rattle.lfs_journal.specs.Reading.{is_all_erased}

all_erased : (bytes : List ℕ) → is_all_erased bytes ≡ true → bytes ≡ erased_block (length bytes)
all_erased [] e = refl
all_erased (b ∷ bytes) e =
    let parts = and_parts (eqb b 0xff) (is_all_erased bytes) e in
    ap (λ (x : ℕ). x ∷ bytes) (eqb-true _ _ parts.0) ∙ ap (λ (xs : List ℕ). 0xff ∷ xs) (all_erased bytes parts.1)

erased_is : (size : ℕ) → is_all_erased (erased_block size) ≡ true
erased_is zero = refl
erased_is (suc n) = erased_is n

not_false : (b : Bool) → not b ≡ false → b ≡ true
not_false true e = refl
not_false false e = absurd cc

-- a block that isn't there before, and passed the test
pub erased_before : (before number size : ℕ) (old : List ℕ) → length old ≡ size → (leb before number && not (is_all_erased old)) ≡ false
    → before ≤ number → old ≡ erased_block size
erased_before before number size old len test behind =
    let passed : not (is_all_erased old) ≡ false = ap (λ (b : Bool). b && not (is_all_erased old)) (sym (le-leb before number behind)) ∙ test in
    all_erased old (not_false (is_all_erased old) passed) ∙ ap erased_block len

by_place : (b : Bool) (before number size : ℕ) (old : List ℕ) → leb before number ≡ b → (before ≤ number → old ≡ erased_block size)
    → (b && not (is_all_erased old)) ≡ false
by_place true before number size old e erased = ap not (ap is_all_erased (erased (leb-true _ _ e)) ∙ erased_is size)
by_place false before number size old e erased = refl

-- a block that is erased where it isn't there before passes the test
pub passes_erased : (before number size : ℕ) (old : List ℕ) → (before ≤ number → old ≡ erased_block size)
    → (leb before number && not (is_all_erased old)) ≡ false
passes_erased before number size old erased = by_place (leb before number) before number size old refl erased
