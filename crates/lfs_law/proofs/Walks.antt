-- Walks along the names of a path, and what holds of paths by their last name.
use Rattle.std.proofs.Common.{◌≡◌, ◌⊎◌, List, [], ◌∷◌, ◌++◌, Option, Some, None, refl, ap, sym, ◌∙◌, inl}
use Rattle.std.proofs.Common.{inr}
use Rattle.std.proofs.lemmas.Option.{same_Some}
use Rattle.std.specs.Option.{option_and_then}
use Rattle.lfs_fs.specs.Graph.{entry_within, walk}
use Rattle.lfs_fs.proofs.EntryAtLemmas.{by_last_name, walk-append, step_some}

-- ---- paths by their last name

-- a path is the root's, or has a last name
pub last_name : {N : Type 0} (p : List N) → (p ≡ []) ⊎ ((q : List N) × (n : N) × (p ≡ q ++ n ∷ []))
last_name {N} p = by_last_name (λ (p : List N). (p ≡ []) ⊎ ((q : List N) × (n : N) × (p ≡ q ++ n ∷ []))) (inl refl)
    (λ p n h. inr (p, n, refl)) p

-- ---- walks

pub walk-snoc : {K N E : Type 0} (target : E → Option K) (edge : K → N → Option E) (here : Option E) (p : List N) (n : N)
    → walk target edge here (p ++ n ∷ []) ≡ entry_within target edge n (walk target edge here p)
walk-snoc target edge here p n = walk-append target edge here p (n ∷ [])

pub walk-none : {K N E : Type 0} (target : E → Option K) (edge : K → N → Option E) (p : List N) → walk target edge None p ≡ None
walk-none target edge [] = refl
walk-none target edge (n ∷ p) = walk-none target edge p

led_same : {K N E : Type 0} (edge other : K → N → Option E) (n : N) → ((k : K) → other k n ≡ edge k n) → (o : Option K)
    → option_and_then (λ k. other k n) o ≡ option_and_then (λ k. edge k n) o
led_same edge other n same None = refl
led_same edge other n same (Some k) = same k

-- along the same edges
pub walk_same : {K N E : Type 0} (target : E → Option K) (edge other : K → N → Option E) → ((k : K) (n : N) → other k n ≡ edge k n)
    → (here : Option E) (p : List N)
    → walk target other here p ≡ walk target edge here p
walk_same target edge other same here [] = refl
walk_same target edge other same None (n ∷ p) = walk_same target edge other same None p
walk_same target edge other same (Some e) (n ∷ p) =
    ap (λ o. walk target other o p) (led_same edge other n (λ k. same k n) (target e))
    ∙ walk_same target edge other same (entry_within target edge n (Some e)) p

-- a entry_within goes by what the entry leads to
pub step_by_target : {K N E : Type 0} (target : E → Option K) (edge : K → N → Option E) (n : N) (here : Option E)
    → entry_within target edge n here ≡ option_and_then (λ k. edge k n) (option_and_then target here)
step_by_target target edge n None = refl
step_by_target target edge n (Some e) = refl

-- steps from entries that lead to one place
pub step_alike : {K N E : Type 0} (target : E → Option K) (edge : K → N → Option E) (n : N) (here there : Option E)
    → option_and_then target here ≡ option_and_then target there → entry_within target edge n here ≡ entry_within target edge n there
step_alike target edge n here there same = step_by_target target edge n here ∙ ap (option_and_then (λ k. edge k n)) same
    ∙ sym (step_by_target target edge n there)

led_along : {K N E : Type 0} (edge other : K → N → Option E) (n : N) (o : Option K) → ((k : K) → o ≡ Some k → other k n ≡ edge k n)
    → option_and_then (λ k. other k n) o ≡ option_and_then (λ k. edge k n) o
led_along edge other n None same = refl
led_along edge other n (Some k) same = same k refl

-- steps along the same edge
pub step_same : {K N E : Type 0} (target : E → Option K) (edge other : K → N → Option E) (n : N) (here : Option E)
    → ((e : E) (k : K) → here ≡ Some e → target e ≡ Some k → other k n ≡ edge k n) → entry_within target other n here ≡ entry_within target edge n here
step_same target edge other n None same = refl
step_same target edge other n (Some e) same = led_along edge other n (target e) (λ k is. same e k refl is)

-- walks that lead to the same entry, and one name more along the same edge
pub snoc_same : {K N E : Type 0} (target : E → Option K) (edge other : K → N → Option E) (here there : Option E) (p q : List N) (n : N)
    → walk target other there p ≡ walk target edge here q
    → ((e : E) (k : K) → walk target edge here q ≡ Some e → target e ≡ Some k → other k n ≡ edge k n)
    → walk target other there (p ++ n ∷ []) ≡ walk target edge here (q ++ n ∷ [])
snoc_same target edge other here there p q n fronts same =
    walk-snoc target other there p n ∙ ap (entry_within target other n) fronts ∙ step_same target edge other n (walk target edge here q) same
    ∙ sym (walk-snoc target edge here q n)

-- ---- one path to each place

-- No two edges lead to one place, and none to where the top leads.
pub record LeadOnce {K N E : Type 0} (target : E → Option K) (edge : K → N → Option E) (top : E) : Type 0 where
  pub one : (k j i : K) (n m : N) (e f : E) → edge k n ≡ Some e → edge j m ≡ Some f → target e ≡ Some i → target f ≡ Some i
      → (k ≡ j) × (n ≡ m)
  pub top_alone : (k i : K) (n : N) (e : E) → edge k n ≡ Some e → target e ≡ Some i → target top ≡ Some i → ⊥

-- no walk of one name or more leads to where the top leads
back_to_top : {K N E : Type 0} (target : E → Option K) (edge : K → N → Option E) (top : E) → LeadOnce target edge top
    → (q : List N) (m : N) (e f : E) (k : K) → Some top ≡ Some e → walk target edge (Some top) (q ++ m ∷ []) ≡ Some f → target e ≡ Some k
    → target f ≡ Some k → ⊥
back_to_top target edge top once q m e f k he hf te tf =
    let s = step_some target edge m (walk target edge (Some top) q) f (sym (walk-snoc target edge (Some top) q m) ∙ hf) in
    once.top_alone s.1 k m f s.4 tf (ap target (same_Some top e he) ∙ te)

-- paths that lead to one place are one
pub one_walk : {K N E : Type 0} (target : E → Option K) (edge : K → N → Option E) (top : E) → LeadOnce target edge top
    → (p q : List N) (e f : E) (k : K) → walk target edge (Some top) p ≡ Some e → walk target edge (Some top) q ≡ Some f → target e ≡ Some k
    → target f ≡ Some k → p ≡ q
one_walk {K} {N} {E} target edge top once = by_last_name (λ (p : List N). (q : List N) (e f : E) (k : K)
    → walk target edge (Some top) p ≡ Some e
    → walk target edge (Some top) q ≡ Some f → target e ≡ Some k → target f ≡ Some k → p ≡ q) none more
  where
    none : (q : List N) (e f : E) (k : K) → Some top ≡ Some e → walk target edge (Some top) q ≡ Some f → target e ≡ Some k
        → target f ≡ Some k → [] ≡ q
    none q e f k he hf te tf = elim (last_name q) [
      | inl is ↦ sym is
      | inr s ↦ absurd (back_to_top target edge top once s.0 s.1 e f k he (ap (walk target edge (Some top)) (sym s.2) ∙ hf) te tf)
    ]

    more : (p : List N) (n : N) → ((q : List N) (e f : E) (k : K) → walk target edge (Some top) p ≡ Some e
        → walk target edge (Some top) q ≡ Some f → target e ≡ Some k → target f ≡ Some k → p ≡ q)
        → (q : List N) (e f : E) (k : K) → walk target edge (Some top) (p ++ n ∷ []) ≡ Some e → walk target edge (Some top) q ≡ Some f
        → target e ≡ Some k → target f ≡ Some k → p ++ n ∷ [] ≡ q
    more p n before q e f k he hf te tf = elim (last_name q) [
      | inl is ↦ absurd (back_to_top target edge top once p n f e k (ap (walk target edge (Some top)) (sym is) ∙ hf) he tf te)
      | inr t ↦
          let a = step_some target edge n (walk target edge (Some top) p) e (sym (walk-snoc target edge (Some top) p n) ∙ he) in
          let b = step_some target edge t.1 (walk target edge (Some top) t.0) f
          (sym (walk-snoc target edge (Some top) t.0 t.1) ∙ (ap (walk target edge (Some top)) (sym t.2) ∙ hf)) in
          let same = once.one a.1 b.1 k n t.1 e f a.4 b.4 te tf in
          let fronts : p ≡ t.0 = before t.0 a.0 b.0 a.1 a.2 b.2 a.3 (b.3 ∙ ap Some (sym same.0)) in
          ap (λ x. x ++ n ∷ []) fronts ∙ ap (λ x. t.0 ++ x ∷ []) same.1 ∙ sym t.2
    ]
