-- Parts put together to directories, one after another.
use Rattle.std.proofs.Common.{◌≡◌, Bool, true, false, List, [], ◌∷◌, ◌++◌, length, refl, ap, sym, ◌∙◌, append_assoc, arith}
use Rattle.lfs_meta.specs.Runs.{onto}
use Rattle.lfs_fs.specs.Gathering.{PairPart}
use Rattle.lfs_fs.specs.Thread.{is_hard}
use Rattle.lfs_settle.specs.Grouping.{GoesOn, as_group, put_before_all}
use Rattle.lfs_settle.specs.Reached.{groups}
use Rattle.lfs_settle.proofs.SettledThread.{put_before}

-- a part more that goes on
before_more : (ps : List PairPart) (p : PairPart) (gs : List (List PairPart)) → put_before_all ps (onto p gs) ≡ put_before_all (ps ++ p ∷ []) gs
before_more [] p gs = refl
before_more (q ∷ ps) p gs = ap (onto q) (before_more ps p gs)

-- one that ends its directory
before_ends : (ps : List PairPart) (p : PairPart) (gs : List (List PairPart)) → put_before_all ps ((p ∷ []) ∷ gs) ≡ (ps ++ p ∷ []) ∷ gs
unfolding onto
before_ends [] p gs = refl
before_ends (q ∷ ps) p gs = ap (onto q) (before_ends ps p gs)

-- no directory follows
before_last : (ps : List PairPart) → put_before_all ps [] ≡ as_group ps
unfolding onto
before_last [] = refl
before_last (p ∷ []) = refl
before_last (p ∷ q ∷ ps) = ap (onto p) (before_last (q ∷ ps))

put_by : (hard : Bool) (gs new : List (List PairPart)) (current now : List PairPart) (p : PairPart) (rest : List (List PairPart))
    → GoesOn hard gs new (current ++ p ∷ []) now
    → new ++ put_before_all now rest ≡ gs ++ put_before_all current (put_before hard p rest)
put_by true gs new current now p rest h =
    ap (λ (xs : List (List PairPart)). xs ++ put_before_all now rest) h.0
    ∙ ap (λ (ps : List PairPart). gs ++ put_before_all ps rest) h.1
    ∙ ap (λ (xs : List (List PairPart)). gs ++ xs) (sym (before_more current p rest))
put_by false gs new current now p rest h =
    ap (λ (xs : List (List PairPart)). xs ++ put_before_all now rest) h.0
    ∙ ap (λ (ps : List PairPart). (gs ++ (current ++ p ∷ []) ∷ []) ++ put_before_all ps rest) h.1
    ∙ append_assoc gs ((current ++ p ∷ []) ∷ []) rest
    ∙ ap (λ (xs : List (List PairPart)). gs ++ xs) (sym (before_ends current p rest))

-- one part more
pub grouped_more : (all : List (List PairPart)) (gs new : List (List PairPart)) (current now : List PairPart) (p : PairPart) (rest : List PairPart)
    → GoesOn (is_hard p.1.tail) gs new (current ++ p ∷ []) now → all ≡ gs ++ put_before_all current (groups (p ∷ rest))
    → all ≡ new ++ put_before_all now (groups rest)
grouped_more all gs new current now p rest goes is = is ∙ sym (put_by (is_hard p.1.tail) gs new current now p (groups rest) goes)

-- all parts
pub grouped_all : (all : List (List PairPart)) (gs : List (List PairPart)) (current rest : List PairPart) → length rest ≡ 0
    → all ≡ gs ++ put_before_all current (groups rest) → gs ++ as_group current ≡ all
grouped_all all gs current [] none is = ap (λ (xs : List (List PairPart)). gs ++ xs) (sym (before_last current)) ∙ sym is
grouped_all all gs current (p ∷ rest) none is = absurd (omega (arith, none))
