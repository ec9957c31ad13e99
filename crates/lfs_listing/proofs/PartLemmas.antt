-- Texts that stand one behind another in one buffer.
use Rattle.std.proofs.Common.{◌≡◌, ℕ, ◌≤◌, List, [], ◌∷◌, ◌++◌, drop, length, map, take, refl, ap, ◌∙◌, arith}
use Rattle.std.specs.List.{All}
use Rattle.std.proofs.Math.Seq.{drop-append_seam}
use Rattle.std.proofs.lemmas.List.{map-append, take-append-le, take_all}
use Rattle.std.proofs.lemmas.List.Elements.{All-head, All-tail}
use Rattle.lfs_listing.specs.declared.row_parts.Span.{Span}

-- what stands in a text at a span
abbrev pub at_span : List ℕ → Span → List ℕ
at_span text s = drop s.start (take s.end text)

-- a span of a text
abbrev pub IsWithin : List ℕ → Span → Type 0
IsWithin text s = (s.start ≤ s.end) × (s.end ≤ length text)

spans_stay : (text more : List ℕ) (spans : List Span) → All (IsWithin text) spans
    → map (at_span (text ++ more)) spans ≡ map (at_span text) spans
spans_stay text more [] h = refl
spans_stay text more (s ∷ spans) h =
    ap (λ (xs : List ℕ). drop s.start xs ∷ map (at_span (text ++ more)) spans) (take-append-le s.end text more (All-head (IsWithin text) s spans h).1)
    ∙ ap (λ (xs : List (List ℕ)). at_span text s ∷ xs) (spans_stay text more spans (All-tail (IsWithin text) s spans h))

-- one more text
pub spans_more : (text more new : List ℕ) (spans : List Span) (s : Span) → All (IsWithin text) spans → new ≡ text ++ more
    → s.start ≡ length text → s.end ≡ length new → map (at_span new) (spans ++ s ∷ []) ≡ map (at_span text) spans ++ more ∷ []
spans_more text more new spans s h is start end =
    let complete : take s.end new ≡ new = take_all s.end new (omega arith) in
    let last : at_span new s ≡ more =
    ap (drop s.start) (complete ∙ is) ∙ ap (λ (i : ℕ). drop i (text ++ more)) start ∙ drop-append_seam text more in
    map-append (at_span new) spans (s ∷ [])
    ∙ ap (λ (xs : List (List ℕ)). xs ++ at_span new s ∷ []) (ap (λ (t : List ℕ). map (at_span t) spans) is ∙ spans_stay text more spans h)
    ∙ ap (λ (xs : List ℕ). map (at_span text) spans ++ xs ∷ []) last
