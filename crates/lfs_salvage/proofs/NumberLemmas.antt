-- Numbers are words that a host can have, and may stand behind one.
use Rattle.std.proofs.Common.{◌≡◌, ℕ, ◌+◌, ◌<◌, ◌≤◌, ◌^◌, ◌%◌, List, [], ◌∷◌, ◌++◌, ap, arith, length, refl, subst}
use Rattle.std.proofs.lemmas.Fmt.{decimal_by_steps}
use Rattle.std.proofs.lemmas.List.{length-append}
use Rattle.std.proofs.lemmas.List.Elements.{All-append, All-cons, All-head, All-nil, All-weaker}
use Rattle.std.proofs.lemmas.Str.{IsUtf8-append}
use Rattle.std.specs.Fmt.{decimal}
use Rattle.std.specs.Prelude.{◌≢◌, All}
use Rattle.lfs_extract.specs.HostNames.{IsHostName}
use Rattle.lfs_salvage.specs.Word.{numbered_word, numbers}
use Rattle.lfs_salvage.proofs.WordLemmas.{IsPlain, plain_by, plain_text, plain_word}

-- a decimal digit
record IsFigure (b : ℕ) : Type 0 where
  low : 48 ≤ b
  high : b ≤ 57

-- one or several of them
abbrev AreFigures : ℕ → List ℕ → Type 0
AreFigures n ds = All IsFigure ds × (0 < length ds)

figure : (n : ℕ) → n < 10 → IsFigure (48 + n)
figure n few = record { low = omega arith; high = omega arith }

decimal_figures : (n : ℕ) → n < 2 ^ 64 → AreFigures n (decimal n)
decimal_figures = decimal_by_steps AreFigures
    (λ n few. (All-cons IsFigure (48 + n) [] (figure n few) (All-nil IsFigure), omega arith))
    (λ n ds large some. (
      All-append IsFigure ds ((48 + n % 10) ∷ []) some.0
          (All-cons IsFigure (48 + n % 10) [] (figure (n % 10) (omega arith)) (All-nil IsFigure)),
      omega (arith, some.1, length-append ds ((48 + n % 10) ∷ [])),
    ))

figure_plain : (b : ℕ) → IsFigure b → IsPlain b
figure_plain b is = record {
  ascii = omega (arith, is.high);
  some' = λ z. omega (arith, is.low, z);
  no_slash = λ z. omega (arith, is.low, z);
}

-- no digit is a dot
no_dot : (w more : List ℕ) → All IsFigure w → w ≡ 46 ∷ more → ⊥
no_dot w more all is =
    let head : IsFigure 46 = All-head IsFigure 46 more (subst (λ (x : List ℕ). All IsFigure x) is all) in omega (arith, head.low)

-- a number is a word that a host can have
pub decimal_word : (n : ℕ) → n < 2 ^ 64 → IsHostName (decimal n)
decimal_word n small =
    let figures = decimal_figures n small in
    plain_word (decimal n) (All-weaker IsFigure IsPlain figure_plain (decimal n) figures.0) figures.1
    (λ is. no_dot (decimal n) [] figures.0 is) (λ is. no_dot (decimal n) (46 ∷ []) figures.0 is)

decimal_plain : (n : ℕ) → n < 2 ^ 64 → All IsPlain (decimal n)
decimal_plain n small = All-weaker IsFigure IsPlain figure_plain (decimal n) (decimal_figures n small).0

-- a word that a host can have with plain bytes behind it, two at least, is one
longer_word : (w t : List ℕ) → IsHostName w → All IsPlain t → 1 < length t → IsHostName (w ++ t)
longer_word w t is plain long =
    let some : 0 < length w = is.name.some' in
    let all : length (w ++ t) ≡ length w + length t = length-append w t in
    record {
      name = record {
        some' = omega (arith, all, some, long);
        no_slash = All-append (λ (b : ℕ). b ≢ 47) w t is.name.no_slash (All-weaker IsPlain (λ (b : ℕ). b ≢ 47) (λ b h. h.no_slash) t plain);
        no_dot = λ e. let one : length (w ++ t) ≡ 1 = ap length e in omega (arith, all, some, long, one);
        no_dots = λ e. let two : length (w ++ t) ≡ 2 = ap length e in omega (arith, all, some, long, two);
      };
      no_zero = All-append (λ (b : ℕ). b ≢ 0) w t is.no_zero (All-weaker IsPlain (λ (b : ℕ). b ≢ 0) (λ b h. h.some') t plain);
      text = IsUtf8-append w t is.text (plain_text t plain);
    }

-- two numbers
numbers_plain : (block index : ℕ) → block < 2 ^ 64 → index < 2 ^ 64 → All IsPlain (numbers block index)
numbers_plain block index few less =
    All-append IsPlain (126 ∷ decimal block) (46 ∷ decimal index)
    (All-cons IsPlain 126 (decimal block) (plain_by 126 refl) (decimal_plain block few))
    (All-cons IsPlain 46 (decimal index) (plain_by 46 refl) (decimal_plain index less))

numbers_long : (block index : ℕ) → block < 2 ^ 64 → index < 2 ^ 64 → 2 < length (numbers block index)
numbers_long block index few less =
    let first : 0 < length (decimal block) = (decimal_figures block few).1 in
    let second : 0 < length (decimal index) = (decimal_figures index less).1 in
    let long : length (numbers block index) ≡ length (126 ∷ decimal block) + length (46 ∷ decimal index) =
    length-append (126 ∷ decimal block) (46 ∷ decimal index) in
    omega (arith, long, first, second)

-- a host can have them alone
pub numbers_are_host : (block index : ℕ) → block < 2 ^ 64 → index < 2 ^ 64 → IsHostName (numbers block index)
numbers_are_host block index few less =
    let long : 2 < length (numbers block index) = numbers_long block index few less in
    plain_word (numbers block index) (numbers_plain block index few less) (omega (arith, long))
    (λ is. let one : length (numbers block index) ≡ 1 = ap length is in omega (arith, long, one))
    (λ is. let two : length (numbers block index) ≡ 2 = ap length is in omega (arith, long, two))

-- and behind a word
pub numbered_is_host : (w : List ℕ) (block index : ℕ) → IsHostName w → block < 2 ^ 64 → index < 2 ^ 64
    → IsHostName (numbered_word w block index)
numbered_is_host w block index is few less =
    longer_word w (numbers block index) is (numbers_plain block index few less)
    (omega (arith, numbers_long block index few less))
