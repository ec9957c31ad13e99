-- Bytes are tested for erasure eight by eight.
use Rattle.std.proofs.Common.{◌≡◌, ℕ, zero, suc, ◌*◌, ◌/◌, ◌<◌, ◌==◌, ◌&&◌, Bool, true, nat_eq, List, [], ◌∷◌, length, take}
use Rattle.std.proofs.Common.{drop, slice_index_or, refl, sym, ap, ◌∙◌, inl, inr, arith}
use Rattle.std.specs.Int.{w64, from_le_bytes}
use Rattle.std.specs.List.{list_all}
use Rattle.std.specs.Simd.{first_chunks}
use Rattle.std.proofs.lemmas.Bool.{false_from_ne_true}
use Rattle.std.proofs.lemmas.Bool.Decides.{eqb_tells, Decides-by_and, Decides-eqb}
use Rattle.std.proofs.lemmas.List.{take-append-drop}
use Rattle.std.proofs.lemmas.List.Folds.{list_all-append}
use Rattle.lfs_block.proofs.ChecksumLemmas.{take-more}
use Rattle.lfs_tag.specs.Log.{IsErased}
use Rattle.lfs_tag.specs.LogSeen.{is_erased}

-- the greatest number of eight bytes
abbrev greatest : ℕ
greatest = 0xffffffffffffffff

-- each byte is 0xff where all are said to be
erased_bytes : (bytes : List ℕ) → is_erased bytes ≡ true → IsErased bytes
erased_bytes bytes = (Decides-by_and (λ b. b == 255) (λ b. b ≡ 255) (list_all (λ b. b == 255)) (λ b. Decides-eqb b 255) refl
    (λ _ _. refl) bytes).0

eight-ones : (a b c d e f g h : ℕ) → a < 256 → b < 256 → c < 256 → d < 256 → e < 256 → f < 256 → g < 256 → h < 256
    → nat_eq (from_le_bytes w64 (a ∷ b ∷ c ∷ d ∷ e ∷ f ∷ g ∷ h ∷ [])) greatest ≡ is_erased (a ∷ b ∷ c ∷ d ∷ e ∷ f ∷ g ∷ h ∷ [])
eight-ones a b c d e f g h ha hb hc hd he hf hg hh =
    let bytes : List ℕ = a ∷ b ∷ c ∷ d ∷ e ∷ f ∷ g ∷ h ∷ [] in
    elim (eqb_tells (from_le_bytes w64 bytes) greatest) [
      | inl same ↦
          let ea : a ≡ 255 = omega (arith, same.1, ha, hb, hc, hd, he, hf, hg, hh) in
          let eb : b ≡ 255 = omega (arith, same.1, ha, hb, hc, hd, he, hf, hg, hh) in
          let ec : c ≡ 255 = omega (arith, same.1, ha, hb, hc, hd, he, hf, hg, hh) in
          let ed : d ≡ 255 = omega (arith, same.1, ha, hb, hc, hd, he, hf, hg, hh) in
          let ee : e ≡ 255 = omega (arith, same.1, ha, hb, hc, hd, he, hf, hg, hh) in
          let ef : f ≡ 255 = omega (arith, same.1, ha, hb, hc, hd, he, hf, hg, hh) in
          let eg : g ≡ 255 = omega (arith, same.1, ha, hb, hc, hd, he, hf, hg, hh) in
          let eh : h ≡ 255 = omega (arith, same.1, ha, hb, hc, hd, he, hf, hg, hh) in
          rw (ea, eb, ec, ed, ee, ef, eg, eh) refl
      | inr differs ↦
          let other : is_erased bytes ≡ true → ⊥ = λ all.
          let each : IsErased bytes = erased_bytes bytes all in
          differs.1 (omega (
            arith,
            each 0 0 (omega arith),
            each 1 0 (omega arith),
            each 2 0 (omega arith),
            each 3 0 (omega arith),
            each 4 0 (omega arith),
            each 5 0 (omega arith),
            each 6 0 (omega arith),
            each 7 0 (omega arith),
          )) in
          differs.0 ∙ sym (false_from_ne_true (is_erased bytes) other)
    ]

-- eight bytes are erased where the number that they make is the greatest
pub erased-eight : (bytes : List ℕ) → length bytes ≡ 8 → ((i : ℕ) → slice_index_or bytes i 0 < 256)
    → nat_eq (from_le_bytes w64 bytes) greatest ≡ is_erased bytes
erased-eight [] len fits = absurd cc
erased-eight (_ ∷ []) len fits = absurd cc
erased-eight (_ ∷ _ ∷ []) len fits = absurd cc
erased-eight (_ ∷ _ ∷ _ ∷ []) len fits = absurd cc
erased-eight (_ ∷ _ ∷ _ ∷ _ ∷ []) len fits = absurd cc
erased-eight (_ ∷ _ ∷ _ ∷ _ ∷ _ ∷ []) len fits = absurd cc
erased-eight (_ ∷ _ ∷ _ ∷ _ ∷ _ ∷ _ ∷ []) len fits = absurd cc
erased-eight (_ ∷ _ ∷ _ ∷ _ ∷ _ ∷ _ ∷ _ ∷ []) len fits = absurd cc
erased-eight (a ∷ b ∷ c ∷ d ∷ e ∷ f ∷ g ∷ h ∷ []) len fits = eight-ones a b c d e f g h (fits 0) (fits 1) (fits 2) (fits 3) (fits 4)
    (fits 5) (fits 6) (fits 7)
erased-eight (_ ∷ _ ∷ _ ∷ _ ∷ _ ∷ _ ∷ _ ∷ _ ∷ _ ∷ bytes) len fits = absurd (omega arith)

-- chunks of eight bytes are erased where their bytes are
erased-chunks : (n : ℕ) (bytes : List ℕ) → list_all is_erased (first_chunks 8 n bytes) ≡ is_erased (take (n * 8) bytes)
erased-chunks zero bytes = refl
erased-chunks (suc n) bytes =
    ap (λ (b : Bool). is_erased (take 8 bytes) && b) (erased-chunks n (drop 8 bytes))
    ∙ sym (list_all-append (λ b. b == 255) (take 8 bytes) (take (n * 8) (drop 8 bytes)))
    ∙ ap is_erased (take-more 8 (n * 8) bytes ∙ ap (λ (m : ℕ). take m bytes) (omega arith))

-- chunks of eight bytes and the rest are the whole
pub erased-parts : (bytes : List ℕ) → (list_all is_erased (first_chunks 8 (length bytes / 8) bytes)
    && is_erased (drop (length bytes / 8 * 8) bytes)) ≡ is_erased bytes
erased-parts bytes =
    ap (λ (b : Bool). b && is_erased (drop (length bytes / 8 * 8) bytes)) (erased-chunks (length bytes / 8) bytes)
    ∙ sym (list_all-append (λ b. b == 255) (take (length bytes / 8 * 8) bytes) (drop (length bytes / 8 * 8) bytes))
    ∙ ap is_erased (take-append-drop (length bytes / 8 * 8) bytes)
