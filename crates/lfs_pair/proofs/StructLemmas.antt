-- What a struct's or a tail's tag has as data, read back.
use Rattle.std.proofs.Common.{◌≡◌, ℕ, ◌<◌, ◌==◌, ◌&&◌, ◌^◌, not, true, false, List, [], ◌∷◌, length, refl, ap, sym, ◌∙◌, arith, inl, inr}
use Rattle.std.specs.Prelude.{replicate}
use Rattle.std.specs.List.{list_all}
use Rattle.std.proofs.lemmas.Nat.{from_le_bytes-to_le_bytes_4}
use Rattle.std.proofs.lemmas.Bool.{cases_Bool, and_parts}
use Rattle.std.proofs.lemmas.Bool.Decides.{nat_tests}
use Rattle.lfs_meta.specs.Action.{is_null}
use Rattle.lfs_meta.specs.Body.{StoredBody, Inline, Chain, Directory_at, body_named, struct_word, words, body_bytes}
use Rattle.lfs_meta.specs.Fits.{BodyFits, NumbersFit}
use Rattle.lfs_pair.specs.Spelling.{body_kind}

pub first_word : (a b : ℕ) → a < 2 ^ 32 → struct_word (words a b) 0 ≡ a
first_word a b h = from_le_bytes-to_le_bytes_4 a h

pub second_word : (a b : ℕ) → b < 2 ^ 32 → struct_word (words a b) 4 ≡ b
second_word a b h = from_le_bytes-to_le_bytes_4 b h

-- ---- a struct

pub body_named-bytes : (b : StoredBody) → BodyFits b → body_named (body_kind b) (body_bytes b) ≡ b
unfolding body_named
body_named-bytes (Inline bytes) fits = refl
body_named-bytes (Chain head size) fits = rw (first_word head size fits.0, second_word head size fits.1) refl
body_named-bytes (Directory_at first second) fits = rw (first_word first second fits.0, second_word first second fits.1) refl

pub body-good : (b : StoredBody) → (not (body_kind b == 0x201) && not (length (body_bytes b) == 8)) ≡ false
body-good (Inline bytes) = refl
body-good (Chain head size) = refl
body-good (Directory_at first second) = refl

-- ---- a tail

pub all_same : (x : ℕ) (xs : List ℕ) → list_all (λ b. b == x) xs ≡ true → xs ≡ replicate (length xs) x
all_same x [] e = refl
all_same x (y ∷ ys) e =
    let parts : ((y == x) ≡ true) × (list_all (λ b. b == x) ys ≡ true) = and_parts (y == x) (list_all (λ b. b == x) ys) e in
    let test : (y == x) ≡ true = parts.0 in
    let here : y ≡ x = grind (arith, nat_tests) in
    ap (λ (z : ℕ). z ∷ ys) here ∙ ap (λ (zs : List ℕ). x ∷ zs) (all_same x ys parts.1)

pub numbers-not_null : (a b : ℕ) → NumbersFit a b → is_null (words a b) ≡ false
numbers-not_null a b fits = elim (cases_Bool (is_null (words a b))) [
  | inl null ↦
      let same : words a b ≡ replicate 8 0xff = all_same 0xff (words a b) null in
      let first : a ≡ 0xffffffff = sym (first_word a b fits.first_fits) ∙ ap (λ (xs : List ℕ). struct_word xs 0) same in
      let second : b ≡ 0xffffffff = sym (second_word a b fits.second_fits) ∙ ap (λ (xs : List ℕ). struct_word xs 4) same in
      absurd (fits.some' first second)
  | inr some' ↦ some'
]
