-- A text that is cut at its slashes, and the one path that it spells.
use Rattle.std.proofs.Common.{◌≡◌, ◌≢◌, ◌↔◌, ℕ, zero, suc, ◌+◌, ◌-◌, ◌<◌, ◌≤◌, ◌&&◌, Bool, true, false, List, Bor, map, [], ◌∷◌, ◌++◌}
use Rattle.std.proofs.Common.{length, take, drop, get_or, cond, refl, ap, sym, ◌∙◌, subst, arith, inl, inr, append-nil, take_all}
use Rattle.std.proofs.Common.{length-drop, take-append-drop, drop-drop}
use Rattle.std.specs.Prelude.{All, flat_map, bytes_eq, nat_le}
use Rattle.std.specs.List.{list_all}
use Rattle.std.proofs.lemmas.Bool.{cases_lt, and_parts, and_from, leb-true, le-leb, both_ways}
use Rattle.std.proofs.lemmas.Bool.Decides.{Decides-by_and}
use Rattle.std.proofs.lemmas.List.{take_more, get_or-drop, at_drop_more}
use Rattle.std.proofs.lemmas.List.Elements.{All-nil, All-cons, All-head, All-tail, All-push, All-weaker}
use Rattle.std.proofs.lemmas.Slice.Eq.{bytes_eq-Decides}
use Rattle.bstr.specs.Find.{occurs_at, matches_from, matches}
use Rattle.bstr.specs.Text.{part, split_at}
use Rattle.lfs_meta.specs.Name.{Name, IsName, is_name}
use Rattle.lfs_meta.specs.Laws.{NamesAreDecided}
use Rattle.lfs_fs.specs.Path.{path_text, IsPathText, IsNoPath}
use Rattle.lfs_fs.proofs.PathTextLemmas.{one_name_first}

abbrev pub HasNoSlash : Name → Type 0
HasNoSlash = All (λ b. b ≢ 47)

-- the pieces between the slashes of a text
pub record IsSplit (text : List ℕ) (pieces : List Name) : Type 0 where
  pub joined : 47 ∷ text ≡ flat_map (λ p. 47 ∷ p) pieces
  pub apart : All HasNoSlash pieces

-- ---- one place of the text

-- the byte at a place, and all behind it
byte_at : (hay : List ℕ) (i : ℕ) → i < length hay → take 1 (drop i hay) ≡ get_or hay i 0 ∷ []
byte_at hay i l = at_drop_more (take 1) hay i 0 l

slash_within : (hay : List ℕ) (i : ℕ) → occurs_at hay (47 ∷ []) i ≡ true → i < length hay
slash_within hay i here =
    let fits = and_parts (nat_le (i + 1) (length hay)) (bytes_eq (take 1 (drop i hay)) (47 ∷ [])) here in
    omega (arith, leb-true (i + 1) (length hay) fits.0)

slash_there : (hay : List ℕ) (i : ℕ) → occurs_at hay (47 ∷ []) i ≡ true → drop i hay ≡ 47 ∷ drop (i + 1) hay
slash_there hay i here =
    let parts = and_parts (nat_le (i + 1) (length hay)) (bytes_eq (take 1 (drop i hay)) (47 ∷ [])) here in
    let same : take 1 (drop i hay) ≡ 47 ∷ [] = (bytes_eq-Decides (take 1 (drop i hay)) (47 ∷ [])).0 parts.1 in
    let byte : get_or hay i 0 ≡ 47 = ap (λ xs. get_or xs 0 0) (sym (byte_at hay i (slash_within hay i here)) ∙ same) in
    at_drop_more (λ xs. xs) hay i 0 (slash_within hay i here) ∙ ap (λ b. b ∷ drop (i + 1) hay) byte

no_slash_there : (hay : List ℕ) (i : ℕ) → i < length hay → occurs_at hay (47 ∷ []) i ≡ false → get_or hay i 0 ≢ 47
no_slash_there hay i l miss here =
    both_ways (occurs_at hay (47 ∷ []) i) miss
    (and_from (nat_le (i + 1) (length hay)) (bytes_eq (take 1 (drop i hay)) (47 ∷ [])) (le-leb (i + 1) (length hay) (omega arith))
    ((bytes_eq-Decides (take 1 (drop i hay)) (47 ∷ [])).1 (byte_at hay i l ∙ ap (λ b. b ∷ []) here)))

-- ---- the piece that a place is in

-- nothing of it, so far
part_none : (hay : List ℕ) (i : ℕ) → part i i hay ≡ []
part_none hay i = let none : i - i ≡ 0 = omega arith in ap (λ n. take n (drop i hay)) none

-- all of it, past the end
part_all : (hay : List ℕ) (last i : ℕ) → length hay ≤ i → part last i hay ≡ drop last hay
part_all hay last i l = take_all (i - last) (drop last hay) (omega (arith, length-drop last hay))

-- with one byte more
part_more : (hay : List ℕ) (last i : ℕ) → last ≤ i → i < length hay → part last (i + 1) hay ≡ part last i hay ++ get_or hay i 0 ∷ []
part_more hay last i le l =
    let next : i + 1 - last ≡ i - last + 1 = omega arith in
    let at : last + (i - last) ≡ i = omega arith in
    ap (λ n. take n (drop last hay)) next
    ∙ take_more (drop last hay) (i - last) 0 (omega (arith, length-drop last hay))
    ∙ ap (λ b. part last i hay ++ b ∷ []) (get_or-drop last hay (i - last) 0 ∙ ap (λ n. get_or hay n 0) at)

-- with the rest behind it
part_rest : (hay : List ℕ) (last i : ℕ) → last ≤ i → part last i hay ++ drop i hay ≡ drop last hay
part_rest hay last i le =
    let at : last + (i - last) ≡ i = omega arith in
    ap (λ n. part last i hay ++ drop n hay) (sym at) ∙ ap (λ xs. part last i hay ++ xs) (sym (drop-drop (i - last) last hay))
    ∙ take-append-drop (i - last) (drop last hay)

free_on : (hay : List ℕ) (last i : ℕ) → last ≤ i → HasNoSlash (part last i hay) → occurs_at hay (47 ∷ []) i ≡ false
    → HasNoSlash (part last (i + 1) hay)
free_on hay last i le free miss = elim (cases_lt i (length hay)) [
  | inl l ↦ subst HasNoSlash (sym (part_more hay last i le l)) (All-push (λ b. b ≢ 47) (part last i hay) (get_or hay i 0) free
      (no_slash_there hay i l miss))
  | inr over ↦ subst HasNoSlash (part_all hay last i over ∙ sym (part_all hay last (i + 1) (omega arith))) free
]

-- ---- all pieces

-- the pieces from a place on, which is behind the last slash
abbrev SplitFrom : List ℕ → ℕ → ℕ → Type 0
SplitFrom hay n i = (last : ℕ) → last ≤ i → i + n ≡ length hay + 1 → HasNoSlash (part last i hay)
    → IsSplit (drop last hay) (split_at hay 1 last (matches_from hay (47 ∷ []) 0 i n))

one_piece : (piece : List ℕ) → HasNoSlash piece → IsSplit piece (piece ∷ [])
one_piece piece free = record {
  joined = ap (λ xs. 47 ∷ xs) (sym (append-nil piece));
  apart = All-cons HasNoSlash piece [] free (All-nil HasNoSlash);
}

piece_before : (piece rest : List ℕ) (pieces : List Name) → HasNoSlash piece → IsSplit rest pieces
    → IsSplit (piece ++ 47 ∷ rest) (piece ∷ pieces)
piece_before piece rest pieces free split = record {
  joined = ap (λ xs. 47 ∷ piece ++ xs) split.joined;
  apart = All-cons HasNoSlash piece pieces free split.apart;
}

split_from : (hay : List ℕ) (n i : ℕ) → SplitFrom hay n i
unfolding split_at matches_from
split_from hay zero i last le count free = one_piece (drop last hay) (subst HasNoSlash (part_all hay last i (omega (arith, count))) free)
split_from hay (suc n) i last le count free = by (occurs_at hay (47 ∷ []) i) refl (split_from hay n (i + 1))
  where
    by : (here : Bool) → occurs_at hay (47 ∷ []) i ≡ here → SplitFrom hay n (i + 1)
        → IsSplit (drop last hay) (split_at hay 1 last (cond here (i ∷ matches_from hay (47 ∷ []) 0 (i + 1) n)
        (matches_from hay (47 ∷ []) 0 (i + 1) n)))
    by true here later =
        let cut : part last i hay ++ 47 ∷ drop (i + 1) hay ≡ drop last hay =
        ap (λ xs. part last i hay ++ xs) (sym (slash_there hay i here)) ∙ part_rest hay last i le in
        subst (λ text. IsSplit text (part last i hay ∷ split_at hay 1 (i + 1) (matches_from hay (47 ∷ []) 0 (i + 1) n))) cut
        (piece_before (part last i hay) (drop (i + 1) hay) (split_at hay 1 (i + 1) (matches_from hay (47 ∷ []) 0 (i + 1) n)) free
        (later (i + 1) (omega arith) (omega (arith, count)) (subst HasNoSlash (sym (part_none hay (i + 1))) (All-nil (λ b. b ≢ 47)))))
    by false miss later = later last (omega arith) (omega (arith, count)) (free_on hay last i le free miss)

pub split_all : (hay : List ℕ) → IsSplit hay (split_at hay 1 0 (matches hay (47 ∷ []) 0))
split_all hay = split_from hay (length hay + 1 - 0) 0 0 (omega arith) (omega arith)
    (subst HasNoSlash (sym (part_none hay 0)) (All-nil (λ b. b ≢ 47)))

-- ---- one text has one path

-- what stands behind a piece: nothing, or a slash
abbrev IsBehind : List ℕ → Type 0
IsBehind [] = Unit {0}
IsBehind (b ∷ bs) = b ≡ 47

behind_pieces : (ps : List Name) → IsBehind (flat_map (λ p. 47 ∷ p) ps)
behind_pieces [] = tt
behind_pieces (p ∷ ps) = refl

one_split : (ps qs : List Name) → All HasNoSlash ps → All HasNoSlash qs → flat_map (λ p. 47 ∷ p) ps ≡ flat_map (λ p. 47 ∷ p) qs → ps ≡ qs
one_split [] [] free_p free_q is = refl
one_split [] (q ∷ qs) free_p free_q is = absurd (cc)
one_split (p ∷ ps) [] free_p free_q is = absurd (cc)
one_split (p ∷ ps) (q ∷ qs) free_p free_q is =
    let first = one_name_first p q (flat_map (λ n. 47 ∷ n) ps) (flat_map (λ n. 47 ∷ n) qs) (All-head HasNoSlash p ps free_p)
    (All-head HasNoSlash q qs free_q)
    (behind_pieces ps) (behind_pieces qs) (ap (drop 1) is) in
    let rest = one_split ps qs (All-tail HasNoSlash p ps free_p) (All-tail HasNoSlash q qs free_q) first.1 in
    ap (λ n. n ∷ ps) first.0 ∙ ap (λ ns. q ∷ ns) rest

-- ---- what a text spells

are_names_decides : NamesAreDecided → (ps : List Name) → (list_all is_name ps ≡ true) ↔ All IsName ps
are_names_decides law ps = Decides-by_and is_name IsName (list_all is_name) law refl (λ _ _. refl) ps

names_seen : (ps : List (Bor Name)) → list_all (λ p. is_name p.now) ps ≡ list_all is_name (map (λ p. p.now) ps)
names_seen [] = refl
names_seen (p ∷ ps) = ap (λ t. is_name p.now && t) (names_seen ps)

-- a text from which the first slash is taken
pub slash_before : (text rest : List ℕ) → bytes_eq (take 1 text) (47 ∷ []) ≡ true → rest ≡ drop 1 text → text ≡ 47 ∷ rest
slash_before text rest first is =
    sym (take-append-drop 1 text)
    ∙ ap (λ xs. xs ++ drop 1 text) ((bytes_eq-Decides (take 1 text) (47 ∷ [])).0 first)
    ∙ ap (λ xs. 47 ∷ xs) (sym is)

text_of_pieces : (rest : List ℕ) (ps : List Name) → 47 ∷ rest ≡ flat_map (λ p. 47 ∷ p) ps → 47 ∷ rest ≡ path_text ps
text_of_pieces rest [] joined = absurd (cc)
text_of_pieces rest (p ∷ ps) joined = joined

-- pieces that are names are the path
pub path_of_pieces : NamesAreDecided → (rest : List ℕ) (ps : List (Bor Name)) → IsSplit rest (map (λ p. p.now) ps)
    → list_all (λ p. is_name p.now) ps ≡ true
    → IsPathText (47 ∷ rest) (map (λ p. p.now) ps)
path_of_pieces law rest ps split names =
    ((are_names_decides law (map (λ p. p.now) ps)).0 (sym (names_seen ps) ∙ names), text_of_pieces rest (map (λ p. p.now) ps) split.joined)

-- where one of them is no name, there is no path
pub no_path_of_pieces : NamesAreDecided → (rest : List ℕ) (ps : List (Bor Name)) → rest ≢ [] → IsSplit rest (map (λ p. p.now) ps)
    → list_all (λ p. is_name p.now) ps ≡ false
    → IsNoPath (47 ∷ rest)
no_path_of_pieces law rest ps some' split others [] spells = some' (ap (drop 1) spells.1)
no_path_of_pieces law rest ps some' split others (n ∷ ns) spells =
    let pieces : List Name = map (λ p. p.now) ps in
    let free = All-weaker IsName HasNoSlash (λ m is. is.no_slash) (n ∷ ns) spells.0 in
    let same : n ∷ ns ≡ pieces = one_split (n ∷ ns) pieces free split.apart (sym spells.1 ∙ split.joined) in
    both_ways (list_all is_name pieces) (sym (names_seen ps) ∙ others) ((are_names_decides law pieces).1 (subst (All IsName) same spells.0))
