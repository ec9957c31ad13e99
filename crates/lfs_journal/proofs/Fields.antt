-- A number or a block that is read is spelled so, and what is spelled so is read.
use Rattle.std.proofs.Common.{◌≡◌, ℕ, ◌^◌, ◌<◌, ◌≤◌, Bool, true, false, cond, ltb, List, ◌++◌, length, take, drop, Option, Some, None}
use Rattle.std.proofs.Common.{refl, sym, ap, subst, ◌∙◌, append_assoc, arith}
use Rattle.std.specs.Int.{w32, from_le_bytes, to_le_bytes}
use Rattle.std.proofs.lemmas.Bool.{ltb-false, le-ltb}
use Rattle.std.proofs.lemmas.List.{take_at, drop_at, take-append-drop, length-append, length-take}
use Rattle.std.proofs.lemmas.Nat.{le_bytes_4, from_le_bytes-to_le_bytes_4}
use Rattle.std.proofs.lemmas.Option.{same_Some}
use Rattle.lfs_block.specs.Bytes.{IsBytes}
use Rattle.lfs_block.proofs.PutLemmas.{IsBytes-drop, IsBytes-take}
use Rattle.lfs_journal.specs.Reading.{◌>>=◌, word_at, block_at}

-- the value of a step that read something
pub bind_some : {A B : Type 0} (o : Option A) (f : A → Option B) (y : B) → (o >>= f) ≡ Some y → (x : A) × (o ≡ Some x) × (f x ≡ Some y)
bind_some None f y e = absurd cc
bind_some (Some x) f y e = (x, refl, e)

-- a step behind one that read something
pub bind_is : {A B : Type 0} (o : Option A) (f : A → Option B) (x : A) (y : Option B) → o ≡ Some x → f x ≡ y → (o >>= f) ≡ y
bind_is {A} o f x y e g = ap (λ (p : Option A). p >>= f) e ∙ g

pub guard_none : {A : Type 0} (b : Bool) (o : Option A) (y : A) → cond b None o ≡ Some y → (b ≡ false) × (o ≡ Some y)
guard_none true o y e = absurd cc
guard_none false o y e = (refl, e)

-- what a reader took from the front
pub record Takes (bytes text rest : List ℕ) : Type 0 where
  pub parts : bytes ≡ text ++ rest
  pub rest_bytes : IsBytes rest

pub Takes-then : (a x b y c : List ℕ) → Takes a x b → Takes b y c → Takes a (x ++ y) c
Takes-then a x b y c p q = record {
  parts = p.parts ∙ ap (λ (t : List ℕ). x ++ t) q.parts ∙ sym (append_assoc x y c);
  rest_bytes =
      q.rest_bytes;
}

-- ---- numbers

pub word_takes : (bytes : List ℕ) (n : ℕ) (rest : List ℕ) → IsBytes bytes → word_at bytes ≡ Some (n, rest)
    → Takes bytes (to_le_bytes w32 n) rest × (n < 2 ^ 32)
unfolding word_at
word_takes bytes n rest h e =
    let g = guard_none (ltb (length bytes) 4) (Some (from_le_bytes w32 (take 4 bytes), drop 4 bytes)) (n, rest) e in
    let long : 4 ≤ length bytes = ltb-false _ _ g.0 in
    let read : ℕ × List ℕ = (from_le_bytes w32 (take 4 bytes), drop 4 bytes) in
    let same : read ≡ (n, rest) = same_Some read (n, rest) g.1 in
    let fits : IsBytes (take 4 bytes) = IsBytes-take 4 bytes h in
    let number : ℕ = from_le_bytes w32 (take 4 bytes) in
    let back : to_le_bytes w32 number ≡ take 4 bytes = le_bytes_4 (take 4 bytes) number (omega (arith, length-take 4 bytes)) fits refl in
    let all : Takes bytes (to_le_bytes w32 number) (drop 4 bytes) = record {
      parts = sym (take-append-drop 4 bytes) ∙ ap (λ (x : List ℕ). x ++ drop 4 bytes) (sym back);
      rest_bytes = IsBytes-drop 4 bytes h;
    } in
    let small : number < 2 ^ 32 = omega (arith, fits 0, fits 1, fits 2, fits 3) in
    subst (λ (p : ℕ × List ℕ). Takes bytes (to_le_bytes w32 p.0) p.1 × (p.0 < 2 ^ 32)) same (all, small)

pub word_again : (n : ℕ) (rest : List ℕ) → n < 2 ^ 32 → word_at (to_le_bytes w32 n ++ rest) ≡ Some (n, rest)
unfolding word_at
word_again n rest small =
    let long : ltb (length (to_le_bytes w32 n ++ rest)) 4 ≡ false = le-ltb _ _ (omega (arith, length-append (to_le_bytes w32 n) rest)) in
    ap (λ (b : Bool). cond b None (Some (from_le_bytes w32 (to_le_bytes w32 n), rest))) long
    ∙ ap (λ (k : ℕ). Some (k, rest)) (from_le_bytes-to_le_bytes_4 n small)

-- ---- blocks

pub record TakesBlock (size : ℕ) (bytes block rest : List ℕ) : Type 0 where
  pub takes : Takes bytes block rest
  pub len : length block ≡ size
  pub block_bytes : IsBytes block

pub block_takes : (size : ℕ) (bytes block rest : List ℕ) → IsBytes bytes → block_at size bytes ≡ Some (block, rest)
    → TakesBlock size bytes block rest
unfolding block_at
block_takes size bytes block rest h e =
    let g = guard_none (ltb (length bytes) size) (Some (take size bytes, drop size bytes)) (block, rest) e in
    let long : size ≤ length bytes = ltb-false _ _ g.0 in
    let read : List ℕ × List ℕ = (take size bytes, drop size bytes) in
    let same : read ≡ (block, rest) = same_Some read (block, rest) g.1 in
    let all : TakesBlock size bytes (take size bytes) (drop size bytes) = record {
      takes = record { parts = sym (take-append-drop size bytes); rest_bytes = IsBytes-drop size bytes h };
      len = omega (arith, length-take size bytes);
      block_bytes = IsBytes-take size bytes h;
    } in
    subst (λ (p : List ℕ × List ℕ). TakesBlock size bytes p.0 p.1) same all

pub block_again : (size : ℕ) (block rest : List ℕ) → length block ≡ size → block_at size (block ++ rest) ≡ Some (block, rest)
unfolding block_at
block_again size block rest len =
    let long : ltb (length (block ++ rest)) size ≡ false = le-ltb _ _ (omega (arith, length-append block rest)) in
    rw (long, take_at block rest size len, drop_at block rest size len) refl
