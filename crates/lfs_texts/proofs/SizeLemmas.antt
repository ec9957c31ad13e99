-- What texts say of sizes, and that they say it once.
use Rattle.std.proofs.Common.{◌≡◌, ◌∙◌, ◌<◌, ◌≤◌, ◌*◌, ◌/◌, ◌%◌, ◌^◌, ℕ, List, Option, Some, None, sym, ap, subst, inl, inr}
use Rattle.std.proofs.Common.{arith, codes, div-add-mod', le-mul_of_pos_right, Bool, true, false, true≢false}
use Rattle.std.proofs.lemmas.List.{append_cancel_right}
use Rattle.std.proofs.lemmas.Slice.Eq.{bytes_eq-Decides}
use Rattle.std.specs.Prelude.{◌≢◌, ◌⊎◌, Err, IsNone}
use Rattle.std.specs.Option.{SomeIff}
use Rattle.std.specs.Str.{bytes_eq}
use Rattle.std.specs.Str.Parse.{ParsesUnsigned, digits_value, without_leading_plus}
use Rattle.lfs_texts.specs.Sizes.{HasUnit, IsHexadecimal, SaysNoBlock, SaysNoBytes, WritesNumber}

-- a text has its digits and its unit once
units_agree : (text d e : List ℕ) (u v : ℕ) → HasUnit text d u → HasUnit text e v → (d ≡ e) × (u ≡ v)
units_agree text d e u v (inl a) (inl b) = (append_cancel_right d e (codes "k") (sym a.0 ∙ b.0), a.1 ∙ sym b.1)
units_agree text d e u v (inl a) (inr (inl b)) = absurd (b.0 (d, a.0))
units_agree text d e u v (inl a) (inr (inr b)) = absurd (b.0 (d, a.0))
units_agree text d e u v (inr (inl a)) (inl b) = absurd (a.0 (e, b.0))
units_agree text d e u v (inr (inl a)) (inr (inl b)) = (append_cancel_right d e (codes "M") (sym a.1 ∙ b.1), a.2 ∙ sym b.2)
units_agree text d e u v (inr (inl a)) (inr (inr b)) = absurd (b.1 (d, a.1))
units_agree text d e u v (inr (inr a)) (inl b) = absurd (a.0 (e, b.0))
units_agree text d e u v (inr (inr a)) (inr (inl b)) = absurd (a.1 (e, b.1))
units_agree text d e u v (inr (inr a)) (inr (inr b)) = (a.2 ∙ sym b.2, a.3 ∙ sym b.3)

unit_some : (text d : List ℕ) (u : ℕ) → HasUnit text d u → 0 < u
unit_some text d u (inl a) = omega (arith, a.1)
unit_some text d u (inr (inl a)) = omega (arith, a.2)
unit_some text d u (inr (inr a)) = omega (arith, a.3)

no_decimal : (text d : List ℕ) (u : ℕ) → ((e : List ℕ) → ¬ IsHexadecimal text e) → HasUnit text d u
    → ((n : ℕ) → WritesNumber 10 d n → ¬ (n * u < 2 ^ 64)) → SaysNoBytes text
no_decimal text d u decimal has none bytes (inl s) small = decimal s.0 s.1
no_decimal text d u decimal has none bytes (inr s) small =
    let e = s.1.0 in
    let v = s.1.1 in
    let n = s.1.2 in
    let same = units_agree text e d v u s.1.3 has in
    let is : bytes ≡ n * u = s.1.5 ∙ ap (λ (w : ℕ). n * w) same.1 in
    none n (subst (λ (t : List ℕ). WritesNumber 10 t n) same.0 s.1.4) (subst (λ (m : ℕ). m < 2 ^ 64) is small)

-- ---- what is read of digits

pub no_decimal_said : {E : Type 0} (text d : List ℕ) (u : ℕ) (e : E) → ((e : List ℕ) → ¬ IsHexadecimal text e) → HasUnit text d u
    → ParsesUnsigned 64 10 d (Err e) → SaysNoBytes text
no_decimal_said text d u e decimal has read = no_decimal text d u decimal has (λ n writes small.
    let more : n ≤ n * u = le-mul_of_pos_right n (unit_some text d u has) in
    let fits : n < 2 ^ 64 = omega (arith, more, small) in
    read (writes.0, subst (λ (m : ℕ). m < 2 ^ 64) writes.1 fits))

pub too_many_said : (text d : List ℕ) (u n : ℕ) → ((e : List ℕ) → ¬ IsHexadecimal text e) → HasUnit text d u
    → n ≡ digits_value 10 (without_leading_plus d) → ¬ (n * u < 2 ^ 64) → SaysNoBytes text
too_many_said text d u n decimal has is large = no_decimal text d u decimal has (λ m writes small.
    let same : m ≡ n = writes.1 ∙ sym is in
    large (subst (λ (k : ℕ). k * u < 2 ^ 64) same small))

-- ---- a number of bytes in blocks

-- what isn't there lies not in its range
pub none_within : {X : Type 0} (P : Type 0) (v : X) (o : Option X) → SomeIff o P v → IsNone o → ¬ P
none_within P v None iff none = iff
none_within P v (Some x) iff none = absurd (cc)

pub in_blocks : (bytes block : ℕ) → bytes % block ≡ 0 → bytes / block * block ≡ bytes
in_blocks bytes block complete = omega (arith, div-add-mod' bytes block, complete)

-- ---- the size of a block

-- the size that a text says, where `auto` stands for the stated one
abbrev pub IsSizeSaid : List ℕ → ℕ → ℕ → Type 0
IsSizeSaid text stated size = ((text ≡ codes "auto") × (size ≡ stated)) ⊎ ((text ≢ codes "auto") × WritesNumber 10 text size)

pub said_auto : (text : List ℕ) (stated size : ℕ) (same : Bool) → same ≡ bytes_eq text (codes "auto") → same ≡ true → size ≡ stated
    → IsSizeSaid text stated size
said_auto text stated size same tells is auto = inl ((bytes_eq-Decides text (codes "auto")).0 (sym tells ∙ is), auto)

pub said_digits : (text : List ℕ) (stated size number : ℕ) (same : Bool) → same ≡ bytes_eq text (codes "auto") → same ≡ false
    → size ≡ number → WritesNumber 10 text number → IsSizeSaid text stated size
said_digits text stated size number same tells not is writes = inr (
  λ auto. true≢false (sym ((bytes_eq-Decides text (codes "auto")).1 auto) ∙ sym tells ∙ not),
  subst (WritesNumber 10 text) (sym is) writes,
)

-- a text says one size
said_once : (text : List ℕ) (stated size other : ℕ) → IsSizeSaid text stated size → IsSizeSaid text stated other → size ≡ other
said_once text stated size other (inl a) (inl b) = a.1 ∙ sym b.1
said_once text stated size other (inl a) (inr b) = absurd (b.0 a.0)
said_once text stated size other (inr a) (inl b) = absurd (a.0 b.0)
said_once text stated size other (inr a) (inr b) = a.1.1 ∙ sym b.1.1

-- which no block has
pub no_block_said : (text : List ℕ) (stated size : ℕ) → IsSizeSaid text stated size → ((256 ≤ size) × (65536 < size)) ⊎ (size < 256)
    → SaysNoBlock text stated
no_block_said text stated size is out other says =
    let same : size ≡ other = said_once text stated size other is says.0 in
    elim out [
      | inl large ↦ omega (arith, same, large.1, says.2)
      | inr small ↦ omega (arith, same, small, says.1)
    ]
