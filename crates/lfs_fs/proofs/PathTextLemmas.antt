-- A text spells one path at most.
use Rattle.std.proofs.Common.{◌≡◌, ◌≢◌, ℕ, List, [], ◌∷◌, ◌++◌, drop, get_or, refl, ap, sym, ◌∙◌, subst, arith}
use Rattle.std.specs.Prelude.{All, flat_map}
use Rattle.std.proofs.lemmas.List.Elements.{All-head, All-tail, All-weaker}
use Rattle.lfs_meta.specs.Name.{Name, IsName}
use Rattle.lfs_fs.specs.Path.{TextsSpellOnePath}

abbrev HasNoSlash : Name → Type 0
HasNoSlash = All (λ b. b ≢ 47)

-- a slash before each name
abbrev joined : List Name → List ℕ
joined ns = flat_map (λ n. 47 ∷ n) ns

-- what stands behind a name: nothing, or a slash
abbrev IsBehind : List ℕ → Type 0
IsBehind [] = Unit {0}
IsBehind (b ∷ bs) = b ≡ 47

behind_names : (ns : List Name) → IsBehind (joined ns)
behind_names [] = tt
behind_names (n ∷ ns) = refl

pub one_name_first : (x y : Name) (xs ys : List ℕ) → HasNoSlash x → HasNoSlash y → IsBehind xs → IsBehind ys → x ++ xs ≡ y ++ ys
    → (x ≡ y) × (xs ≡ ys)
one_name_first [] [] xs ys free_x free_y behind_x behind_y is = (refl, is)
one_name_first [] (b ∷ y) xs ys free_x free_y behind_x behind_y is = absurd (All-head (λ c. c ≢ 47) b y free_y (subst IsBehind is behind_x))
one_name_first (a ∷ x) [] xs ys free_x free_y behind_x behind_y is = absurd
    (All-head (λ c. c ≢ 47) a x free_x (subst IsBehind (sym is) behind_y))
one_name_first (a ∷ x) (b ∷ y) xs ys free_x free_y behind_x behind_y is =
    let heads : a ≡ b = ap (λ zs. get_or zs 0 0) is in
    let rest = one_name_first x y xs ys (All-tail (λ c. c ≢ 47) a x free_x) (All-tail (λ c. c ≢ 47) b y free_y) behind_x behind_y
    (ap (drop 1) is) in
    (ap (λ c. c ∷ x) heads ∙ ap (λ z. b ∷ z) rest.0, rest.1)

one_list : (ps qs : List Name) → All HasNoSlash ps → All HasNoSlash qs → joined ps ≡ joined qs → ps ≡ qs
one_list [] [] free_p free_q is = refl
one_list [] (q ∷ qs) free_p free_q is = absurd (cc)
one_list (p ∷ ps) [] free_p free_q is = absurd (cc)
one_list (p ∷ ps) (q ∷ qs) free_p free_q is =
    let first = one_name_first p q (joined ps) (joined qs) (All-head HasNoSlash p ps free_p) (All-head HasNoSlash q qs free_q)
    (behind_names ps) (behind_names qs) (ap (drop 1) is) in
    let rest = one_list ps qs (All-tail HasNoSlash p ps free_p) (All-tail HasNoSlash q qs free_q) first.1 in
    ap (λ n. n ∷ ps) first.0 ∙ ap (λ ns. q ∷ ns) rest

-- the root's text is a slash with nothing behind it, and a name has a byte
no_root_text : (n : Name) (ns : List Name) → IsName n → 47 ∷ [] ≡ joined (n ∷ ns) → ⊥
no_root_text [] ns is same = absurd (omega (arith, is.some'))
no_root_text (b ∷ n) ns is same = cc

free : (ns : List Name) → All IsName ns → All HasNoSlash ns
free ns names = All-weaker IsName HasNoSlash (λ n is. is.no_slash) ns names

pub texts_spell_one_path : TextsSpellOnePath
texts_spell_one_path text [] [] p_is q_is = refl
texts_spell_one_path text [] (q ∷ qs) p_is q_is = absurd (no_root_text q qs (All-head IsName q qs q_is.0) (sym p_is.1 ∙ q_is.1))
texts_spell_one_path text (p ∷ ps) [] p_is q_is = absurd (no_root_text p ps (All-head IsName p ps p_is.0) (sym q_is.1 ∙ p_is.1))
texts_spell_one_path text (p ∷ ps) (q ∷ qs) p_is q_is = one_list (p ∷ ps) (q ∷ qs) (free (p ∷ ps) p_is.0) (free (q ∷ qs) q_is.0)
    (sym p_is.1 ∙ q_is.1)
