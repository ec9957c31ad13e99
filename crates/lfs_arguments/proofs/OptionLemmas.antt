-- What is read of an argument that is said.
use Rattle.std.proofs.Common.{◌≡◌, ◌≤◌, ◌∙◌, ℕ, List, Option, Some, None, sym, ap, subst, refl, true, inl, inr, codes, arith}
use Rattle.std.specs.Prelude.{IfSome, IsNone, Ok, Result, is_some, option_map, pos}
use Rattle.std.proofs.lemmas.Option.{none-some, same_Some}
use Rattle.std.specs.Borrow.{Bor}
use Rattle.std.specs.Str.Parse.{ParsesUnsigned}
use Rattle.clap.specs.Lexer.{without_minus}
use Rattle.clap.specs.Matches.{ReadsOne, first_value, one_text}
use Rattle.clap.specs.Values.{Accepts, IsSignedIn, read_as, reading_of}
use Rattle.clap.specs.Facts.{parser_of_value}
use Rattle.clap.specs.Walk.{Row, Rule, Text, first_of, one_of, rows_of}
use Rattle.clap.specs.declared.parser.matches.Found.{Found}
use Rattle.clap.specs.declared.builder.value_parser.ValueParser.{ValueParser}
use Rattle.clap.specs.declared.builder.value_parser.ValueParser.TheVariants.{Signed}
use Rattle.clap.proofs.CallerReads.{signed_reads}
use Rattle.clap.proofs.ValueTestLemmas.{accepts-Accepts}
use Rattle.clap.proofs.WalkLemmas.{first_value-rows, one_text-rows}
use Rattle.lfs_grammar.specs.Grammar.{IsNumber, IsSaid, IsSaidOrNeedNot, NamesCommand, is_change, keep}
use Rattle.lfs_grammar.proofs.CommandLemmas.{keep_says}
use Rattle.lfs_history.specs.Taking.{MayKeep}
use Rattle.lfs_arguments.specs.Words.{HasNumber, HasNumberIfSaid, HasText}

none_is : {X : Type 0} (r : Option X) → IsNone r → r ≡ None
none_is None none = refl
none_is (Some x) none = absurd (cc)

-- the text that is read
pub text_read : (f : Found) (id : Text) (r : Option (Bor Text)) → option_map (λ s. s.now) r ≡ first_value f id
    → IfSome r (λ text. HasText (rows_of f) id text.now)
text_read f id None gives = tt
text_read f id (Some text) gives = sym (gives ∙ first_value-rows f id)

-- a text that is said is there
pub text_there : (f : Found) (id : Text) (r : Option (Bor Text)) (rule : Rule) → option_map (λ s. s.now) r ≡ first_value f id → IsNone r
    → rule.id ≡ id → IsSaid rule (rows_of f) → ⊥
text_there f id r rule gives none is said =
    let first : first_value f id ≡ Some said.text = first_value-rows f id ∙ ap (λ (i : Text). first_of i (rows_of f)) (sym is) ∙ said.first in
    let nothing : None ≡ first_value f id = rw (none_is r none) at gives in
    cc

-- a text is there where one is read
pub some_there : (f : Found) (id : Text) (r : Option (Bor Text)) → option_map (λ s. s.now) r ≡ first_value f id
    → is_some r ≡ is_some (first_of id (rows_of f))
some_there f id None gives = ap is_some (gives ∙ first_value-rows f id)
some_there f id (Some text) gives = ap is_some (gives ∙ first_value-rows f id)

-- the number that is read
pub number_read : (E : Type 0) (G : Text → Result ℕ E → Type 0) (f : Found) (id : Text) (r : Option ℕ)
    → ((u : Text) (x : Result ℕ E) → G u x → ParsesUnsigned 32 10 u x)
    → (one_text f id ≡ None → r ≡ None) → ((t : Text) → one_text f id ≡ Some t → ReadsOne G t r)
    → IfSome r (λ n. HasNumber (rows_of f) id n)
number_read E G f id r only none some = go (one_text f id) refl none some r refl
  where
    go : (o : Option Text) → one_text f id ≡ o → (o ≡ None → r ≡ None) → ((t : Text) → o ≡ Some t → ReadsOne G t r)
        → (q : Option ℕ) → r ≡ q → IfSome q (λ n. HasNumber (rows_of f) id n)
    go o is none some None same = tt
    go None is none some (Some n) same = absurd (let bad = none refl in cc)
    go (Some t) is none some (Some n) same =
        let read : ReadsOne G t (Some n) = subst (λ (q : Option ℕ). ReadsOne G t q) same (some t refl) in
        (t, sym (one_text-rows f id) ∙ is, (only t (Ok n) read).1)

-- a number that is said is read, and lies in its range
said_read : (E : Type 0) (G : Text → Result ℕ E → Type 0) (f : Found) (id : Text) (r : Option ℕ) (rule : Rule)
    → ((u : Text) (x : Result ℕ E) → G u x → ParsesUnsigned 32 10 u x)
    → ((t : Text) → one_text f id ≡ Some t → ReadsOne G t r)
    → rule.id ≡ id → (number : IsNumber rule) → IsSaid rule (rows_of f)
    → (n : ℕ) × (r ≡ Some n) × (number.0 ≤ n) × (n ≤ number.1)
said_read E G f id r rule only some is number said =
    let parser : parser_of_value rule.parser ≡ Signed (pos number.0) (pos number.1) = ap parser_of_value number.2 in
    let accepted = accepts-Accepts rule.ignore_case (parser_of_value rule.parser) said.text said.passes in
    let within : IsSignedIn (pos number.0) (pos number.1) said.text =
    subst (λ (p : ValueParser). Accepts rule.ignore_case p said.text) parser accepted in
    let one : one_text f id ≡ Some (without_minus said.text) =
    one_text-rows f id ∙ ap (λ (i : Text). one_of i (rows_of f)) (sym is) ∙ said.one
    ∙ ap (λ (p : ValueParser). Some (read_as (reading_of p) said.text)) parser in
    signed_reads E G 32 number.0 number.1 said.text r (some (without_minus said.text) one) only number.3 within

pub number_there : (E : Type 0) (G : Text → Result ℕ E → Type 0) (f : Found) (id : Text) (r : Option ℕ) (rule : Rule)
    → ((u : Text) (x : Result ℕ E) → G u x → ParsesUnsigned 32 10 u x)
    → ((t : Text) → one_text f id ≡ Some t → ReadsOne G t r)
    → IsNone r → rule.id ≡ id → IsNumber rule → IsSaid rule (rows_of f) → ⊥
number_there E G f id r rule only some none is number said =
    let got = said_read E G f id r rule only some is number said in
    let there : None ≡ Some got.0 = sym (none_is r none) ∙ got.1 in
    cc

pub number_within : (E : Type 0) (G : Text → Result ℕ E → Type 0) (f : Found) (id : Text) (r : Option ℕ)
    → ((u : Text) (x : Result ℕ E) → G u x → ParsesUnsigned 32 10 u x)
    → ((t : Text) → one_text f id ≡ Some t → ReadsOne G t r)
    → IfSome r (λ n. (rule : Rule) → rule.id ≡ id → (number : IsNumber rule) → IsSaid rule (rows_of f)
    → (number.0 ≤ n) × (n ≤ number.1))
number_within E G f id None only some = tt
number_within E G f id (Some n) only some = λ rule is number said.
    let got = said_read E G f id (Some n) rule only some is number said in
    let same : got.0 ≡ n = same_Some got.0 n (sym got.1) in
    (subst (λ (m : ℕ). number.0 ≤ m) same got.2, subst (λ (m : ℕ). m ≤ number.1) same got.3)

-- ---- a number that needn't be said

pub number_as_said : (r : Option ℕ) (rule : Rule) (rows : List Row) → IfSome r (λ n. HasNumber rows rule.id n)
    → (IsNone r → IsSaid rule rows → ⊥) → HasNumberIfSaid rows rule r
number_as_said None rule rows has none = none refl
number_as_said (Some n) rule rows has none = has

pub number_ranges : (r : Option ℕ) (rule : Rule) (rows : List Row) (number : IsNumber rule) → IfSome r (λ n. HasNumber rows rule.id n)
    → IfSome r (λ n. (x : Rule) → x.id ≡ rule.id → (is : IsNumber x) → IsSaid x rows → (is.0 ≤ n) × (n ≤ is.1))
    → IsSaidOrNeedNot rule rows → IfSome r (λ n. (number.0 ≤ n) × (n ≤ number.1))
number_ranges None rule rows number has within says = tt
number_ranges (Some n) rule rows number has within (inl said) = within rule refl number said
number_ranges (Some n) rule rows number has within (inr gone) = absurd (none-some has.0 (sym gone.2 ∙ has.1))

-- how many images are kept
pub kept_within : (r : Option ℕ) (name : Text) (rows : List Row) → is_change name ≡ true
    → IfSome r (λ n. HasNumber rows (codes "keep") n)
    → IfSome r (λ n. (rule : Rule) → rule.id ≡ codes "keep" → (is : IsNumber rule) → IsSaid rule rows → (is.0 ≤ n) × (n ≤ is.1))
    → NamesCommand (Some (name, rows)) → MayKeep r
kept_within None name rows changes has within names = tt
kept_within (Some n) name rows changes has within names =
    let number : IsNumber keep = (1, 1000, refl, omega arith) in
    number_ranges (Some n) keep rows number has within (keep_says name rows changes names)
