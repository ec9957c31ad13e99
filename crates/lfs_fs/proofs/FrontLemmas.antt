-- Of two fronts, one begins the other.
use Rattle.std.proofs.Common.{◌≡◌, ◌⊎◌, List, [], ◌∷◌, refl, ap, sym, subst}
use Rattle.std.specs.Prelude.{Option}
use mathlib.Core.Logic.{inl, inr}
use Rattle.lfs_meta.specs.Body.{Pair}
use Rattle.lfs_fs.specs.Front.{Follow, Begins, FrontsBeginEachOther}

-- one more pair in front of both
begins_more : (p : Pair) (ps qs : List Pair) → Begins ps qs ⊎ Begins qs ps → Begins (p ∷ ps) (p ∷ qs) ⊎ Begins (p ∷ qs) (p ∷ ps)
begins_more p ps qs h = elim h [ inl b ↦ inl (b.0, ap (λ x. p ∷ x) b.1) | inr b ↦ inr (b.0, ap (λ x. p ∷ x) b.1) ]

-- of two lists that follow one step from one start
pub followers_begin : (step : Pair → Option Pair) (from : Option Pair) (ps qs : List Pair) → Follow step from ps → Follow step from qs
    → Begins ps qs ⊎ Begins qs ps
followers_begin step from [] qs h k = inl (qs, refl)
followers_begin step from (p ∷ ps) [] h k = inr (p ∷ ps, refl)
followers_begin step from (p ∷ ps) (q ∷ qs) h k =
    let same : q ≡ p = cc (h.0, k.0) in
    let more : Follow step (step p) qs = subst (λ (x : Pair). Follow step (step x) qs) same k.1 in
    let begins : Begins (p ∷ ps) (p ∷ qs) ⊎ Begins (p ∷ qs) (p ∷ ps) = begins_more p ps qs (followers_begin step (step p) ps qs h.1 more) in
    subst (λ (x : Pair). Begins (p ∷ ps) (x ∷ qs) ⊎ Begins (x ∷ qs) (p ∷ ps)) (sym same) begins

pub fronts_begin_each_other : FrontsBeginEachOther
fronts_begin_each_other r ps qs h k = followers_begin _ _ ps qs h.follow k.follow
