-- Which faults a text says, and which it doesn't.
use Rattle.std.proofs.Common.{inl, inr, ◌≡◌, ◌<◌, ◌+◌, ℕ, Bool, List, Contains, length, map, slice_index_or, refl, ap, subst, sym, ◌∙◌, arith, true, false}
use Rattle.std.specs.Prelude.{◌==◌}
use Rattle.std.specs.List.{after_first, before_first, position_or_len}
use Rattle.std.proofs.lemmas.Bool.Decides.{nat_tests}
use Rattle.std.proofs.lemmas.List.{get_or-map, length-map}
use Rattle.lfs_texts.specs.Explanations.{AreSameInAnyCase, Fault, IsWordOf, SaysFault, fault_of, is_space}
use Rattle.lfs_texts.specs.declared.explanation.Explanation.{Explanation}

-- a text with a space says a fault, if the name after it is the fault's
pub said_by_both : (text word name : List ℕ) (fault : Fault) (same : Bool) → word ≡ before_first is_space text
    → name ≡ after_first is_space text → position_or_len is_space text < length text → IsWordOf word fault
    → (same ≡ true → AreSameInAnyCase fault.1 name) → (AreSameInAnyCase fault.1 name → same ≡ true)
    → (same ≡ true → SaysFault text fault) × (SaysFault text fault → same ≡ true)
said_by_both text word name fault same front rest some is does holds =
    (λ h. inr (some, subst (λ w. IsWordOf w fault) front is, subst (AreSameInAnyCase fault.1) rest (does h)), back)
  where
    back : SaysFault text fault → same ≡ true
    back (inl h) = absurd (omega (arith, h.0, some))
    back (inr h) = holds (subst (AreSameInAnyCase fault.1) (sym rest) h.2)

-- of some faults a text says none of the first
abbrev pub AreUnsaid : List ℕ → ℕ → List Fault → Type 0
AreUnsaid text n all = (k : ℕ) → k < n → (other : Fault) → SaysFault text (slice_index_or all k other) → ⊥

-- it says none of the first none
pub none_unsaid : (text : List ℕ) (all : List Fault) → AreUnsaid text 0 all
none_unsaid text all k h other says = absurd (omega (arith, h))

-- it doesn't say the next one either
pub one_more : (text : List ℕ) (known : List Explanation) (n : ℕ) (d : Explanation) → n < length known → AreUnsaid text n (map fault_of known)
    → (SaysFault text (fault_of (slice_index_or known n d)) → ⊥) → AreUnsaid text (n + 1) (map fault_of known)
one_more text known n d within unsaid this k h other says = by (k == n) refl
  where
    by : (last : Bool) → (k == n) ≡ last → ⊥
    by true is =
        let at : k ≡ n = grind (arith, nat_tests) in
        let inside : k < length known = omega (arith, at, within) in
        this (subst (λ j. SaysFault text (fault_of (slice_index_or known j d))) at
        (subst (SaysFault text) (get_or-map fault_of known k d other inside) says))
    by false is = let before : k < n = grind (arith, nat_tests) in unsaid k before other says

-- it says none of the list, if it says none of as many as that has
pub none_said : (text : List ℕ) (known : List Explanation) (all : List Fault) (n : ℕ) → map fault_of known ≡ all → length known ≡ n
    → AreUnsaid text n (map fault_of known) → (fault : Fault) → Contains all fault → SaysFault text fault → ⊥
none_said text known all n same end unsaid fault among says =
    let long : length known ≡ length all = sym (length-map known fault_of) ∙ ap length same in
    unsaid among.0 (omega (arith, among.1, long, end)) fault
    (subst (SaysFault text) (sym (ap (λ l. slice_index_or l among.0 fault) same ∙ among.2)) says)

-- what is said of a fault is said of one of the list
pub is_fault : (known : List Explanation) (all : List Fault) (n : ℕ) (d : Explanation) → map fault_of known ≡ all → n < length known
    → Contains all (fault_of (slice_index_or known n d))
is_fault known all n d same within =
    let it = fault_of (slice_index_or known n d) in
    let long : length known ≡ length all = sym (length-map known fault_of) ∙ ap length same in
    (n, omega (arith, within, long), ap (λ l. slice_index_or l n it) (sym same) ∙ get_or-map fault_of known n d it within)
