-- Directories are put after each other as one thread.
use Rattle.std.proofs.Common.{◌≡◌, ℕ, zero, suc, ◌<◌, Bool, true, false, List, [], ◌∷◌, ◌++◌, length, drop, drop-cons, get_or, map, set, refl, ap, sym, ◌∙◌, append-nil, append_assoc, arith}
use Rattle.std.specs.Prelude.{cond, slice_index_or}
use Rattle.lfs_meta.specs.declared.tail.Tail.{Tail}
use Rattle.lfs_meta.specs.declared.tail.Tail.TheVariants.{End}
use Rattle.lfs_fs.specs.Gathering.{PairPart}
use Rattle.lfs_fs.specs.Thread.{soft_to}
use Rattle.lfs_settle.specs.Reaching.{flagged}
use Rattle.lfs_settle.specs.Settled.{ending, tail_to, threaded}
use Rattle.lfs_settle.specs.Threading.{put_all_after, put_after}

-- a part with another tail
abbrev pub with_tail : Tail → PairPart → PairPart
with_tail tail p = (p.0, record { entries = p.1.entries; tail = tail; delta = p.1.delta })

-- the last one gets the tail
pub ending_set : (tail : Tail) (ps : List PairPart) (d : PairPart) (k : ℕ) → length ps ≡ suc k
    → ending tail ps ≡ set ps k (with_tail tail (get_or ps k d))
ending_set tail [] d k is = absurd (omega (arith, is))
ending_set tail (p ∷ []) d zero is = refl
ending_set tail (p ∷ []) d (suc k) is = absurd (omega (arith, is))
ending_set tail (p ∷ q ∷ ps) d zero is = absurd (omega (arith, is))
ending_set tail (p ∷ q ∷ ps) d (suc k) is = ap (λ (xs : List PairPart). p ∷ xs) (ending_set tail (q ∷ ps) d k (omega (arith, is)))

ending_twice : (s t : Tail) (ps : List PairPart) → ending s (ending t ps) ≡ ending s ps
ending_twice s t [] = refl
ending_twice s t (p ∷ []) = refl
ending_twice s t (p ∷ q ∷ []) = refl
ending_twice s t (p ∷ q ∷ r ∷ ps) = ap (λ (xs : List PairPart). p ∷ xs) (ending_twice s t (q ∷ r ∷ ps))

ending_behind : (tail : Tail) (ps : List PairPart) (q : PairPart) (qs : List PairPart)
    → ending tail (ps ++ q ∷ qs) ≡ ps ++ ending tail (q ∷ qs)
ending_behind tail [] q qs = refl
ending_behind tail (p ∷ []) q qs = refl
ending_behind tail (p ∷ r ∷ ps) q qs = ap (λ (xs : List PairPart). p ∷ xs) (ending_behind tail (r ∷ ps) q qs)

-- with a first directory the thread begins
ending_threaded : (soft tail : Tail) (x : List PairPart) (q : PairPart) (qs rest : List PairPart)
    → ending soft (x ++ (ending tail (q ∷ qs) ++ rest)) ≡ x ++ ending soft (ending tail (q ∷ qs) ++ rest)
ending_threaded soft tail x q [] rest = ending_behind soft x (with_tail tail q) rest
ending_threaded soft tail x q (r ∷ qs) rest = ending_behind soft x q (ending tail (r ∷ qs) ++ rest)

one_before : (x : List PairPart) (gs : List (List PairPart)) (p : PairPart) (ps : List PairPart)
    → ending (tail_to (gs ++ (p ∷ ps) ∷ [])) x ++ ending (soft_to p.0) (threaded gs)
    ≡ ending (soft_to p.0) (ending (tail_to gs) x ++ threaded gs)
one_before x [] p ps =
    append-nil (ending (soft_to p.0) x) ∙ sym (ending_twice (soft_to p.0) End x)
    ∙ ap (ending (soft_to p.0)) (sym (append-nil (ending End x)))
one_before x ([] ∷ gs) p ps = one_before x gs p ps
one_before x ((q ∷ qs) ∷ gs) p ps = sym (ending_threaded (soft_to p.0) (tail_to gs) (ending (soft_to q.0) x) q qs (threaded gs))

tail_as_before : (gs : List (List PairPart)) → tail_to (gs ++ [] ∷ []) ≡ tail_to gs
tail_as_before [] = refl
tail_as_before ([] ∷ gs) = tail_as_before gs
tail_as_before ((p ∷ ps) ∷ gs) = refl

-- one directory more
threaded_more : (gs : List (List PairPart)) (g : List PairPart) → threaded (gs ++ g ∷ []) ≡ put_after (threaded gs) g
threaded_more [] [] = refl
threaded_more [] (p ∷ ps) = append-nil (ending End (p ∷ ps))
threaded_more (x ∷ gs) [] =
    ap (λ (t : Tail). ending t x ++ threaded (gs ++ [] ∷ [])) (tail_as_before gs)
    ∙ ap (λ (xs : List PairPart). ending (tail_to gs) x ++ xs) (threaded_more gs [])
threaded_more (x ∷ gs) (p ∷ ps) =
    ap (λ (xs : List PairPart). ending (tail_to (gs ++ (p ∷ ps) ∷ [])) x ++ xs) (threaded_more gs (p ∷ ps))
    ∙ sym (append_assoc (ending (tail_to (gs ++ (p ∷ ps) ∷ [])) x) (ending (soft_to p.0) (threaded gs)) (ending End (p ∷ ps)))
    ∙ ap (λ (xs : List PairPart). xs ++ ending End (p ∷ ps)) (one_before x gs p ps)

all_behind : (front gs : List (List PairPart)) → put_all_after (threaded front) gs ≡ threaded (front ++ gs)
all_behind front [] = ap threaded (sym (append-nil front))
all_behind front (g ∷ gs) =
    ap (λ (xs : List PairPart). put_all_after xs gs) (sym (threaded_more front g))
    ∙ all_behind (front ++ g ∷ []) gs
    ∙ ap threaded (append_assoc front (g ∷ []) gs)

-- all of them
pub all_are_threaded : (gs : List (List PairPart)) → put_all_after [] gs ≡ threaded gs
all_are_threaded gs = all_behind [] gs

-- ---- the next one of those with flags

put_by : (f : Bool) (fs : List Bool) (thread : List PairPart) (g : List PairPart) (gs : List (List PairPart))
    → put_all_after (cond f (put_after thread g) thread) (flagged fs gs) ≡ put_all_after thread (flagged (f ∷ fs) (g ∷ gs))
put_by true fs thread g gs = refl
put_by false fs thread g gs = refl

pub put_next : (flags : List Bool) (number : ℕ) (all thread new : List PairPart) (g : List PairPart) (gs : List (List PairPart))
    → number < length flags → new ≡ cond (slice_index_or flags number false) (put_after thread g) thread
    → put_all_after thread (flagged (drop number flags) (g ∷ gs)) ≡ all
    → put_all_after new (flagged (drop (suc number) flags) gs) ≡ all
put_next flags number all thread new g gs within is before =
    ap (λ (xs : List PairPart). put_all_after xs (flagged (drop (suc number) flags) gs)) is
    ∙ put_by (slice_index_or flags number false) (drop (suc number) flags) thread g gs
    ∙ ap (λ (fs : List Bool). put_all_after thread (flagged fs (g ∷ gs))) (sym (drop-cons flags number false within)) ∙ before

none_flagged : (flags : List Bool) → flagged flags [] ≡ []
none_flagged [] = refl
none_flagged (f ∷ flags) = refl

-- none is left
pub put_all : {X : Type 0} (f : X → List PairPart) (flags : List Bool) (all thread : List PairPart) (rest : List X) → length rest ≡ 0
    → put_all_after thread (flagged flags (map f rest)) ≡ all → thread ≡ all
put_all f flags all thread [] none is = ap (put_all_after thread) (sym (none_flagged flags)) ∙ is
put_all f flags all thread (x ∷ rest) none is = absurd (omega (arith, none))

pub put_all_threaded : {X : Type 0} (f : X → List PairPart) (some' flags : List Bool) (thread : List PairPart) (all rest : List X) → length rest ≡ 0
    → put_all_after thread (flagged some' (map f rest)) ≡ put_all_after [] (flagged flags (map f all))
    → thread ≡ threaded (flagged flags (map f all))
put_all_threaded f some' flags thread all rest none is =
    put_all f some' (put_all_after [] (flagged flags (map f all))) thread rest none is ∙ all_are_threaded (flagged flags (map f all))
