-- Texts of paths, from pieces.
use Rattle.std.proofs.Common.{◌≡◌, ◌==◌, ℕ, true, false, List, [], ◌∷◌, ◌++◌, length, ap, sym, ◌∙◌, arith}
use Rattle.std.specs.Prelude.{flat_map}
use Rattle.std.proofs.lemmas.Bool.{eqb-true}
use Rattle.std.proofs.lemmas.Grind.{flat_map-append}
use Rattle.std.proofs.lemmas.List.{nil_from_length}
use Rattle.lfs_meta.specs.Name.{Name}
use Rattle.lfs_fs.specs.Path.{Path, path_text}

-- a slash before each name
abbrev pub slashed : Path → List ℕ
slashed ps = flat_map (λ (m : Name). 47 ∷ m) ps

pub both_slashed : (ps qs : Path) (first text : List ℕ) → first ≡ [] ++ slashed ps → text ≡ first ++ slashed qs → text ≡ slashed (ps ++ qs)
both_slashed ps qs first text one two =
    two ∙ ap (λ (l : List ℕ). l ++ slashed qs) one ∙ sym (flat_map-append (λ (m : Name). 47 ∷ m) ps qs)

-- the text of names, if it has any
pub some_text : (ps : Path) (text : List ℕ) (len : ℕ) → text ≡ slashed ps → len ≡ length text → false ≡ (len == 0) → text ≡ path_text ps
some_text [] text len is long some' =
    let none : len ≡ 0 = omega (arith, long, ap length is) in
    absurd (cc (ap (λ (n : ℕ). n == 0) none, some'))
some_text (n ∷ ns) text len is long some' = is

no_names : (n : Name) (ns : Path) → [] ≡ slashed (n ∷ ns) → ⊥
no_names n ns is = cc

-- the root's is one slash
pub no_text : (ps : Path) (text : List ℕ) (len : ℕ) → text ≡ slashed ps → len ≡ length text → true ≡ (len == 0) → text ++ 47 ∷ [] ≡ path_text ps
no_text [] text len is long none = ap (λ (l : List ℕ). l ++ 47 ∷ []) is
no_text (n ∷ ns) text len is long none =
    let empty : length text ≡ 0 = omega (arith, long, eqb-true len 0 (sym none)) in
    absurd (no_names n ns (sym (nil_from_length text empty) ∙ is))
