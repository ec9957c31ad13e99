-- The rows of words that a command takes: each is of an argument of the command, and has a value that passes.
use Rattle.std.proofs.Common.{arith, ne_eqb, subst, ◌≡◌, ◌∙◌, ◌⊎◌, inl, inr, ℕ, List, [], ◌∷◌, ◌++◌, zero, suc, fold, is_some, drop, Option}
use Rattle.std.proofs.Common.{Some, None, Bool, true, false, sym, ap, ap₂, refl, cond, find, length}
use Rattle.std.specs.Prelude.{option_and_then, option_map, not, ◌&&◌, ◌||◌, encode_utf8, slice_get}
use Rattle.std.specs.List.{list_any}
use Rattle.std.specs.Str.{bytes_eq}
use Rattle.clap.specs.Facts.{explicit_source, unwrap_or_range, parser_of_value}
use Rattle.clap.specs.Kinds.{Kinds, check_kinds, or_else, range_kinds, request_kinds, value_kinds}
use Rattle.clap.specs.Values.{is_request, refused_kind}
use Rattle.clap.specs.Takes.{is_given, value_passes}
use Rattle.clap.specs.Faults.{action_fault, bundle_fault, bundle_step_fault, check_fault, default_fault, defaults_fault, flag_word_fault, flags_fault}
use Rattle.clap.specs.Faults.{level_fault, long_fault, option_fault, other_fault}
use Rattle.clap.specs.Faults.{positional_fault, react_fault, set_fault, settle_fault, short_fault, step_fault, stray_fault, turn_fault}
use Rattle.clap.specs.Faults.{use_fault}
use Rattle.clap.specs.Faults.{values_fault, walk_fault, word_fault}
use Rattle.clap.specs.Lexer.{long_of, short_of}
use Rattle.clap.specs.Simple.{Shape}
use Rattle.std.specs.Option.{option_map_or}
use Rattle.std.specs.Str.{chars}
use Rattle.clap.specs.declared.error.kind.ErrorKind.TheVariants.{TooManyValues}
use Rattle.clap.specs.Walk.{Held, Names, Outcome, Row, Rule, Step, Text, Waiting, Walk, action_of, after_flag, after_step, arg_by_id}
use Rattle.clap.specs.Walk.{arg_by_index}
use Rattle.clap.specs.Walk.{arg_by_long, arg_by_short, at_row, attached_value, bundle, bundle_met, bundle_step, default_rows, done}
use Rattle.clap.specs.Walk.{flag_met, has_long, has_row, has_short, is_empty}
use Rattle.clap.specs.Walk.{idle, is_pending, long_met, long_or_other, more_values, most_values, next, option, option_met, option_word}
use Rattle.clap.specs.Walk.{plain, plain_word}
use Rattle.clap.specs.Walk.{positional, positional_held, reacted, reading_by, refused, settled, settled_rows, short_met, short_or_plain}
use Rattle.clap.specs.Walk.{subcommand}
use Rattle.clap.specs.Walk.{subcommand_met, subcommand_or_other, takes_several, takes_values, to_positional, trailing, used, used_as}
use Rattle.clap.specs.Walk.{used_by_id, value}
use Rattle.clap.specs.Walk.{values_or_missing, waits, walked, walked_from, with_default, with_values, without, word_met}
use Rattle.clap.specs.declared.builder.action.ArgAction.{ArgAction}
use Rattle.clap.specs.declared.builder.action.ArgAction.TheVariants.{Append, Count, Help, HelpLong, HelpShort, Set, SetFalse, SetTrue}
use Rattle.clap.specs.declared.builder.action.ArgAction.TheVariants.{Version}
use Rattle.clap.specs.declared.parser.matches.ValueSource.{ValueSource}
use Rattle.clap.specs.declared.parser.matches.ValueSource.TheVariants.{CommandLine, DefaultValue}
use Rattle.clap.specs.declared.builder.value_parser.Reading.{Reading}
use Rattle.std.proofs.lemmas.Slice.Eq.{bytes_eq-Decides}
use Rattle.clap.specs.Values.{read_as}
use Rattle.clap.specs.Walk.{nothing_held, row_text, rows_after, walk, walk_from}
use Rattle.lfs_grammar.specs.Grammar.{IsSaid, IsSaidOrNeedNot, is_wanted}
use Rattle.lfs_grammar.proofs.Lists.{Each, In, each_in}
use Rattle.clap.proofs.FaultLemmas.{request_fault}
use Rattle.clap.proofs.SimpleLemmas.{is_false}
use Rattle.clap.proofs.WalkLemmas.{both}

-- ---- two steps in turn

pub first_none : (a b : Kinds) → or_else a b ≡ [] → a ≡ []
first_none [] b e = refl
first_none (k ∷ ks) b e = absurd (cc)

pub then_none : (a b : Kinds) → or_else a b ≡ [] → b ≡ []
then_none [] b e = e
then_none (k ∷ ks) b e = absurd (cc)

-- ---- members of a list

-- what is found is a member
pub found_in : {X : Type 0} (p : X → Bool) (xs : List X) (x : X) → find p xs ≡ Some x → In x xs
found_in p [] x e = absurd (cc)
found_in p (y ∷ ys) x e = go (p y) (found_in p ys x) e
  where
    go : (b : Bool) → (find p ys ≡ Some x → In x ys) → cond b (Some y) (find p ys) ≡ Some x → In x (y ∷ ys)
    go true rec e = inl (cc)
    go false rec e = inr (rec e)

each_append : {X : Type 0} (P : X → Type 0) (xs ys : List X) → Each P xs → Each P ys → Each P (xs ++ ys)
each_append P [] ys all more = more
each_append P (x ∷ xs) ys all more = (all.0, each_append P xs ys all.1 more)

-- ---- rows that change

each_at_row : (P : Row → Type 0) (id : Text) (change : Row → List Row) (missing rows : List Row)
    → ((r : Row) → P r → Each P (change r)) → Each P missing → Each P rows → Each P (at_row id change missing rows)
each_at_row P id change missing [] changed new all = new
each_at_row P id change missing (r ∷ rs) changed new all =
    go (bytes_eq r.id id) (each_at_row P id change missing rs changed new all.1)
  where
    go : (b : Bool) → Each P (at_row id change missing rs) → Each P (cond b (change r ++ rs) (r ∷ at_row id change missing rs))
    go true rest = each_append P (change r) rs (changed r all.0) all.1
    go false rest = (all.0, rest)

-- the row is of an argument, and its first value passes
pub record Fits (R : List Rule) (r : Row) : Type 0 where
  pub rule : Rule
  pub here : In rule R
  pub id : r.id ≡ rule.id
  pub text : Text
  pub others : List Text
  pub values : r.values ≡ text ∷ others
  pub passes : value_passes rule text ≡ true
  pub reading : r.reading ≡ reading_by rule

abbrev pub AllFit : List Rule → List Row → Type 0
AllFit R rows = Each (Fits R) rows

fits_more : (R : List Rule) (s : ValueSource) (values : List Text) (r : Row) → Fits R r → Each (Fits R) (more_values s values r)
fits_more R s values r f = (
  record {
    rule = f.rule;
    here = f.here;
    id = f.id;
    text = f.text;
    others = f.others ++ values;
    values = ap (λ vs. vs ++ values) f.values;
    passes = f.passes;
    reading = f.reading;
  },
  tt,
)

without_fits : (R : List Rule) (id : Text) (rows : List Row) → AllFit R rows → AllFit R (without id rows)
without_fits R id rows all = each_at_row (Fits R) id (λ _. []) [] rows (λ r f. tt) tt all

-- a value of an argument's that passes
with_fits : (R : List Rule) (a : Rule) (s : ValueSource) (v : Text) (vs : List Text) (rows : List Row)
    → In a R → value_passes a v ≡ true → AllFit R rows → AllFit R (with_values a.id (reading_by a) s (v ∷ vs) rows)
with_fits R a s v vs rows here passes all =
    each_at_row (Fits R) a.id (more_values s (v ∷ vs)) _ rows (fits_more R s (v ∷ vs)) (
      record {
        rule = a;
        here = here;
        id = refl;
        text = v;
        others = vs;
        values = refl;
        passes = passes;
        reading = refl;
      },
      tt,
    ) all

-- ---- one use

-- an argument that takes one value or more, one without a value, or one that asks for help or the version
abbrev pub Wants : Rule → Type 0
Wants a =
    ((action_of a ≡ Set) × ((unwrap_or_range a.range).start_inclusive ≡ 1))
    ⊎ ((action_of a ≡ SetTrue) × (is_empty a.missing ≡ false))
    ⊎ (is_request (action_of a) ≡ true)

-- a value without a fault passes
value_passed : (a : Rule) (v : Text) → value_kinds a.ignore_case (parser_of_value a.parser) v ≡ [] → value_passes a v ≡ true
value_passed a v e = go (value_passes a v) e
  where
    go : (b : Bool) → cond b [] (refused_kind (parser_of_value a.parser) ∷ []) ≡ [] → b ≡ true
    go true e = refl
    go false e = absurd (cc)

set_fits : (R : List Rule) (again : Bool) (a : Rule) (values : List Text) (rows : List Row)
    → In a R → (unwrap_or_range a.range).start_inclusive ≡ 1
    → or_else (range_kinds (unwrap_or_range a.range).start_inclusive (most_values a) (length values))
    (set_fault again a (values_or_missing a values) rows) ≡ []
    → AllFit R rows → AllFit R (used_as Set a.id (reading_by a) (values_or_missing a values) rows)
set_fits R again a [] rows here one e all =
    let least : Kinds = range_kinds (unwrap_or_range a.range).start_inclusive (most_values a) 0 in
    let bad : range_kinds 1 (most_values a) 0 ≡ [] = rw one at (first_none least (set_fault again a a.missing rows) e) in
    absurd (cc)
set_fits R again a (v ∷ vs) rows here one e all =
    let faultless : values_fault a (v ∷ vs) ≡ [] = then_none _ _ (then_none _ _ e) in
    let passes = value_passed a v (first_none _ _ faultless) in
    with_fits R a CommandLine v vs (without a.id rows) here passes (without_fits R a.id rows all)

some_left : {X : Type 0} (x : X) (xs : List X) → is_empty (x ∷ xs) ≡ false
some_left x xs = ne_eqb _ _ (λ e. omega arith)

-- an argument without a value gets the one that stands for a use
flag_used : (R : List Rule) (again : Bool) (a : Rule) (values : List Text) (rows : List Row)
    → In a R → is_empty values ≡ false → set_fault again a values rows ≡ []
    → AllFit R rows → AllFit R (used_as SetTrue a.id (reading_by a) values rows)
flag_used R again a [] rows here some e all = absurd (cc)
flag_used R again a (v ∷ vs) rows here some e all =
    let faultless : values_fault a (v ∷ vs) ≡ [] = then_none _ _ e in
    let passes = value_passed a v (first_none _ _ faultless) in
    with_fits R a CommandLine v vs (without a.id rows) here passes (without_fits R a.id rows all)

some_for : (a : Rule) (values : List Text) → is_empty a.missing ≡ false → is_empty (values_or_missing a values) ≡ false
some_for a [] some = some
some_for a (v ∷ vs) some = some_left v vs

never_asked : (x : ArgAction) → is_request x ≡ true → request_kinds x ≡ [] → ⊥
never_asked Help e none = cc
never_asked HelpShort e none = cc
never_asked HelpLong e none = cc
never_asked Version e none = cc
never_asked Set e none = cc
never_asked Append e none = cc
never_asked SetTrue e none = cc
never_asked SetFalse e none = cc
never_asked Count e none = cc

pub use_fits : (R : List Rule) (again : Bool) (a : Rule) (values : List Text) (rows : List Row)
    → In a R → Wants a → use_fault again a values rows ≡ [] → AllFit R rows → AllFit R (used a values rows)
use_fits R again a values rows here (inl w) e all =
    rw w.0 (set_fits R again a values rows here w.1 (rw w.0 at e) all)
use_fits R again a values rows here (inr (inl w)) e all =
    let counts : Kinds = range_kinds (unwrap_or_range a.range).start_inclusive (most_values a) (length values) in
    let asked = then_none counts (action_fault (action_of a) again a (values_or_missing a values) rows) e in
    let fault : set_fault again a (values_or_missing a values) rows ≡ [] = rw w.0 at asked in
    rw w.0 (flag_used R again a (values_or_missing a values) rows here (some_for a values w.1) fault all)
use_fits R again a values rows here (inr (inr w)) e all =
    absurd (never_asked (action_of a) w (request_fault (action_of a) again a (values_or_missing a values) rows w ∙ then_none _ _ e))

-- ---- the argument that waits, and the one that is met

abbrev pub IsOf : List Rule → Option Rule → Type 0
IsOf R o = (a : Rule) → o ≡ Some a → In a R

settle_rows : (R : List Rule) (again : Bool) (p : Option (Text × List Text)) (rows : List Row) → Each Wants R
    → option_map_or (λ q. option_map_or (λ a. use_fault again a q.1 rows) (arg_by_id R q.0) []) p [] ≡ []
    → AllFit R rows → AllFit R (settled_rows R p rows)
settle_rows R again None rows wants e all = all
settle_rows R again (Some p) rows wants e all = go (arg_by_id R p.0) (found_in (λ a. bytes_eq a.id p.0) R) e
  where
    go : (o : Option Rule) → IsOf R o → option_map_or (λ a. use_fault again a p.1 rows) o [] ≡ [] → AllFit R (used_by_id o p.1 rows)
    go None of e = all
    go (Some a) of e = use_fits R again a p.1 rows (of a refl) (each_in Wants R a wants (of a refl)) e all

pub settle_fits : (R : List Rule) (again : Bool) (h : Held) → Each Wants R → settle_fault R again h ≡ []
    → AllFit R h.rows → AllFit R (settled R h).rows
settle_fits R again h wants e all = settle_rows R again h.pending h.rows wants e all

react_fits : (R : List Rule) (again : Bool) (a : Rule) (values : List Text) (h : Held) → Each Wants R → In a R
    → react_fault R again a values h ≡ [] → AllFit R h.rows → AllFit R (reacted R a values h).rows
react_fits R again a values h wants here e all =
    use_fits R again a values (settled R h).rows here (each_in Wants R a wants here) (then_none _ _ e)
    (settle_fits R again h wants (first_none (settle_fault R again h) _ e) all)

option_fits : (R : List Rule) (again : Bool) (a : Rule) (v : Option Text) (h : Held) → Each Wants R → In a R
    → option_fault R again a v h ≡ [] → AllFit R h.rows → AllFit R (option_met R a v h).0.rows
option_fits R again a (Some v) h wants here e all = react_fits R again a (v ∷ []) h wants here e all
option_fits R again a None h wants here e all = settle_fits R again h wants e all

flag_fits : (R : List Rule) (again : Bool) (a : Rule) (v : Option Text) (h : Held) → Each Wants R → In a R
    → cond (is_some v) (TooManyValues ∷ []) (react_fault R again a [] h) ≡ [] → AllFit R h.rows → AllFit R (flag_met R a v h).0.rows
flag_fits R again a (Some v) h wants here e all = all
flag_fits R again a None h wants here e all = react_fits R again a [] h wants here e all

long_fits : (R : List Rule) (again : Bool) (o : Option Rule) (v : Option Text) (h : Held) → Each Wants R → IsOf R o
    → long_fault R again o v h ≡ [] → AllFit R h.rows → AllFit R (long_met R o v h).0.rows
long_fits R again None v h wants of e all = all
long_fits R again (Some a) v h wants of e all = go (takes_values a) e
  where
    go : (b : Bool) → cond b (option_fault R again a v h) (cond (is_some v) (TooManyValues ∷ []) (react_fault R again a [] h)) ≡ []
        → AllFit R (cond b (option_met R a v h) (flag_met R a v h)).0.rows
    go true e = option_fits R again a v h wants (of a refl) e all
    go false e = flag_fits R again a v h wants (of a refl) e all

-- ---- the options of a bundle

short_fits : (R : List Rule) (again : Bool) (o : Option Rule) (rest : Text) (h : Held) (onward : Held → Held × Outcome) (faults : Held → Kinds)
    → Each Wants R → IsOf R o → ((g : Held) → faults g ≡ [] → AllFit R g.rows → AllFit R (onward g).0.rows)
    → short_fault R again o rest h faults ≡ [] → AllFit R h.rows → AllFit R (short_met R o rest h onward).0.rows
short_fits R again None rest h onward faults wants of later e all = all
short_fits R again (Some a) rest h onward faults wants of later e all = go (takes_values a) e
  where
    go : (b : Bool)
        → cond b (option_fault R again a (attached_value rest) h) (or_else (react_fault R again a [] h) (faults (reacted R a [] h))) ≡ []
        → AllFit R (cond b (option_met R a (attached_value rest) h) (onward (reacted R a [] h))).0.rows
    go true e = option_fits R again a (attached_value rest) h wants (of a refl) e all
    go false e = later (reacted R a [] h) (then_none _ _ e)
        (react_fits R again a [] h wants (of a refl) (first_none (react_fault R again a [] h) _ e) all)

bundle_fits : (R : List Rule) (again : Bool) → Each Wants R → (k : ℕ) (flags : Text) (skip : ℕ) (so_far : Outcome) (h : Held)
    → flags_fault R again k flags skip h ≡ [] → AllFit R h.rows → AllFit R (bundle_met R k flags skip so_far h).0.rows
unfolding bundle_met flags_fault
bundle_fits R again wants zero flags skip so_far h e all = all
bundle_fits R again wants (suc k) flags skip so_far h e all = go (slice_get (chars flags) 0) skip (bundle_fits R again wants k) e
  where
    go : (x : Option ℕ) (skip : ℕ)
        → ((flags : Text) (skip : ℕ) (so_far : Outcome) (h : Held) → flags_fault R again k flags skip h ≡ [] → AllFit R h.rows
        → AllFit R (bundle_met R k flags skip so_far h).0.rows)
        → bundle_step_fault R again x flags skip h (flags_fault R again k) ≡ []
        → AllFit R (bundle_step R x flags skip so_far h (bundle_met R k)).0.rows
    go None skip rec e = all
    go (Some x) zero rec e =
        let rest = drop (length (encode_utf8 x)) flags in
        short_fits R again (arg_by_short R x) rest h (bundle_met R k rest 0 done) (flags_fault R again k rest 0) wants
        (found_in (λ a. not (is_some a.index) && has_short a x) R) (rec rest 0 done) e all
    go (Some x) (suc skip) rec e = rec (drop (length (encode_utf8 x)) flags) skip so_far h e all

-- ---- one word

plain_fits : (R : List Rule) (waiting : Waiting) (word : Text) (h : Held) → AllFit R h.rows → AllFit R (plain_word R waiting word h).0.rows
plain_fits R idle word h all = all
plain_fits R positional word h all = all
plain_fits R (option id) word h all = go (arg_by_id R id)
  where
    go : (o : Option Rule) → AllFit R (option_word o id word h).0.rows
    go None = all
    go (Some a) = all

after_flag_fits : (R : List Rule) (waiting : Waiting) (word : Text) (h : Held) (outcome : Outcome) → AllFit R h.rows
    → AllFit R (after_flag R waiting word h outcome).0.rows
after_flag_fits R waiting word h done all = all
after_flag_fits R waiting word h (waits id) all = all
after_flag_fits R waiting word h plain all = plain_fits R waiting word h all
after_flag_fits R waiting word h refused all = plain_fits R waiting word h all

flag_word_fits : (R : List Rule) (again : Bool) (waiting : Waiting) (word : Text) (p : Option (Text × Option Text)) (h : Held)
    → Each Wants R
    → flag_word_fault R again p word h ≡ [] → AllFit R h.rows → AllFit R (long_or_other R waiting word p h).0.rows
flag_word_fits R again waiting word (Some p) h wants e all =
    let found = found_in (λ a. not (is_some a.index) && has_long a p.0) R in
    let met = long_met R (arg_by_long R p.0) p.1 h in
    after_flag_fits R waiting word met.0 met.1 (long_fits R again (arg_by_long R p.0) p.1 h wants found e all)
flag_word_fits R again waiting word None h wants e all = go (short_of word) e
  where
    go : (flags : Option Text) → option_map_or (λ flags. bundle_fault R again flags h) flags [] ≡ []
        → AllFit R (short_or_plain R waiting word flags h).0.rows
    go None e = plain_fits R waiting word h all
    go (Some flags) e =
        after_flag_fits R waiting word (bundle R flags h).0 (bundle R flags h).1
        (bundle_fits R again wants (length flags) flags h.skip plain (record h { skip = 0 }) e all)

word_fits : (s : Shape) (names : Names) (is_trailing : Bool) (waiting : Waiting) (position : ℕ) (word : Text) (h : Held)
    → Each Wants s.rules
    → word_fault s names is_trailing waiting word h ≡ [] → AllFit s.rules h.rows
    → AllFit s.rules (word_met s.rules names is_trailing waiting position word h).0.rows
word_fits s names true waiting position word h wants e all = all
word_fits s names false waiting position word h wants e all = go (subcommand_met names waiting word) e
  where
    dashes : (b : Bool) → cond b [] (flag_word_fault s.rules s.args_override_self (long_of word) word h) ≡ []
        → AllFit s.rules (cond b (h, trailing position) (long_or_other s.rules waiting word (long_of word) h)).0.rows
    dashes true e = all
    dashes false e = flag_word_fits s.rules s.args_override_self waiting word (long_of word) h wants e all

    go : (o : Option Text) → other_fault s o word h ≡ [] → AllFit s.rules (subcommand_or_other s.rules o waiting position word h).0.rows
    go (Some name) e = all
    go None e = dashes (bytes_eq word (45 ∷ 45 ∷ [])) e

-- ---- the walk

pushed_fits : (s : Shape) (a : Rule) (word : Text) (h : Held) → Each Wants s.rules → positional_fault s.rules s.args_override_self a h ≡ []
    → AllFit s.rules h.rows → AllFit s.rules (positional_held s.rules a word h).rows
pushed_fits s a word h wants e all = go (is_pending a h.pending && takes_several a) e
  where
    go : (b : Bool) → cond b [] (settle_fault s.rules s.args_override_self h) ≡ [] → AllFit s.rules (cond b h (settled s.rules h)).rows
    go true e = all
    go false e = settle_fits s.rules s.args_override_self h wants e all

step_fits : (s : Shape) (word : Text) (w : Walk) (h : Held) (step : Step) → Each Wants s.rules → step_fault s w.position h step ≡ []
    → AllFit s.rules h.rows → AllFit s.rules (after_step s.rules word w h step).held.rows
step_fits s word w h (next waiting) wants e all = all
step_fits s word w h (trailing position) wants e all = all
step_fits s word w h (subcommand name) wants e all = all
step_fits s word w h value wants e all = go (arg_by_index s.rules w.position) e
  where
    go : (o : Option Rule) → option_map_or (λ a. positional_fault s.rules s.args_override_self a h) o (stray_fault s) ≡ []
        → AllFit s.rules (to_positional s.rules o word w h).held.rows
    go None e = all
    go (Some a) e = pushed_fits s a word h wants e all

turn_fits : (s : Shape) (names : Names) (w : Walk) (word : Text) → Each Wants s.rules → turn_fault s names w word ≡ []
    → AllFit s.rules w.held.rows → AllFit s.rules (walked s.rules names w word).held.rows
unfolding walked
turn_fits s names w word wants e all = go w.stopped e
  where
    go : (o : Option (Text × List Text))
        → cond (is_some o) [] (or_else (word_fault s names w.is_trailing w.waiting word w.held)
        (step_fault s w.position (word_met s.rules names w.is_trailing w.waiting w.position word w.held).0
        (word_met s.rules names w.is_trailing w.waiting w.position word w.held).1)) ≡ []
        → AllFit s.rules (walked_from s.rules names o w word).held.rows
    go (Some p) e = all
    go None e =
        let met = word_met s.rules names w.is_trailing w.waiting w.position word w.held in
        let faults = word_fault s names w.is_trailing w.waiting word w.held in
        step_fits s word w met.0 met.1 wants (then_none _ _ e)
        (word_fits s names w.is_trailing w.waiting w.position word w.held wants (first_none faults _ e) all)

pub walk_fits : (s : Shape) (names : Names) (words : List Text) (w : Walk) → Each Wants s.rules → walk_fault s names w words ≡ []
    → AllFit s.rules w.held.rows → AllFit s.rules (fold (walked s.rules names) w words).held.rows
unfolding walk_fault
walk_fits s names [] w wants e all = all
walk_fits s names (word ∷ rest) w wants e all =
    walk_fits s names rest (walked s.rules names w word) wants (then_none _ _ e)
    (turn_fits s names w word wants (first_none (turn_fault s names w word) _ e) all)

-- ---- the values that stand for what isn't said

default_fits : (R : List Rule) (a : Rule) (rows : List Row) → In a R → default_fault rows a ≡ [] → AllFit R rows
    → AllFit R (with_default rows a)
default_fits R a rows here e all = go (has_row a.id rows) a.defaults e
  where
    go : (b : Bool) (vs : List Text) → cond (b || is_empty vs) [] (or_else (request_kinds (action_of a)) (values_fault a vs)) ≡ []
        → AllFit R (cond b rows (default_rows a.id (reading_by a) vs rows))
    go true vs e = all
    go false [] e = all
    go false (v ∷ vs) e =
        let same : is_empty (v ∷ vs) ≡ false = some_left v vs in
        let said : or_else (request_kinds (action_of a)) (values_fault a (v ∷ vs)) ≡ [] = rw same at e in
        let first = value_kinds a.ignore_case (parser_of_value a.parser) v in
        let passes = first_none first (values_fault a vs) (then_none (request_kinds (action_of a)) (values_fault a (v ∷ vs)) said) in
        with_fits R a DefaultValue v vs rows here (value_passed a v passes) all

defaults_fit : (R xs : List Rule) (rows : List Row) → ((a : Rule) → In a xs → In a R) → defaults_fault rows xs ≡ [] → AllFit R rows
    → AllFit R (fold with_default rows xs)
unfolding defaults_fault
defaults_fit R [] rows of e all = all
defaults_fit R (a ∷ xs) rows of e all =
    defaults_fit R xs (with_default rows a) (λ b here. of b (inr here)) (then_none _ _ e)
    (default_fits R a rows (of a (inl refl)) (first_none (default_fault rows a) _ e) all)

same_text : (id : Text) → bytes_eq id id ≡ true
same_text id = (bytes_eq-Decides id id).1 refl

-- a row stays
row_stays : (id other : Text) (s : ValueSource) (values : List Text) (missing rows : List Row) → has_row id rows ≡ true
    → has_row id (at_row other (more_values s values) missing rows) ≡ true
row_stays id other s values missing [] e = absurd (cc)
row_stays id other s values missing (r ∷ rs) e =
    go (bytes_eq r.id other) (bytes_eq r.id id) refl e (row_stays id other s values missing rs)
  where
    go : (b d : Bool) → bytes_eq r.id id ≡ d → (d || has_row id rs) ≡ true
        → (has_row id rs ≡ true → has_row id (at_row other (more_values s values) missing rs) ≡ true)
        → has_row id (cond b (more_values s values r ++ rs) (r ∷ at_row other (more_values s values) missing rs)) ≡ true
    go true true is e rec = rw is refl
    go true false is e rec = rw is e
    go false true is e rec = rw is refl
    go false false is e rec = rw is (rec e)

-- a row comes
row_comes : (id : Text) (s : ValueSource) (values : List Text) (missing rows : List Row) → has_row id missing ≡ true
    → has_row id (at_row id (more_values s values) missing rows) ≡ true
row_comes id s values missing [] e = e
row_comes id s values missing (r ∷ rs) e = go (bytes_eq r.id id) refl (row_comes id s values missing rs e)
  where
    go : (b : Bool) → bytes_eq r.id id ≡ b → has_row id (at_row id (more_values s values) missing rs) ≡ true
        → has_row id (cond b (more_values s values r ++ rs) (r ∷ at_row id (more_values s values) missing rs)) ≡ true
    go true is rec = rw is refl
    go false is rec = rw is rec

default_stays : (id : Text) (rows : List Row) (a : Rule) → has_row id rows ≡ true → has_row id (with_default rows a) ≡ true
default_stays id rows a e = go (has_row a.id rows) a.defaults
  where
    go : (b : Bool) (vs : List Text) → has_row id (cond b rows (default_rows a.id (reading_by a) vs rows)) ≡ true
    go true vs = e
    go false [] = e
    go false (v ∷ vs) = row_stays id a.id DefaultValue (v ∷ vs) _ rows e

default_comes : (rows : List Row) (a : Rule) → is_empty a.defaults ≡ false → has_row a.id (with_default rows a) ≡ true
default_comes rows a e = go (has_row a.id rows) refl a.defaults e
  where
    go : (b : Bool) → has_row a.id rows ≡ b → (vs : List Text) → is_empty vs ≡ false
        → has_row a.id (cond b rows (default_rows a.id (reading_by a) vs rows)) ≡ true
    go true is vs e = is
    go false is [] e = absurd (cc)
    go false is (v ∷ vs) e = row_comes a.id DefaultValue (v ∷ vs) _ rows (rw (same_text a.id) refl)

defaults_stay : (xs : List Rule) (id : Text) (rows : List Row) → has_row id rows ≡ true → has_row id (fold with_default rows xs) ≡ true
defaults_stay [] id rows e = e
defaults_stay (a ∷ xs) id rows e = defaults_stay xs id (with_default rows a) (default_stays id rows a e)

defaults_come : (xs : List Rule) (a : Rule) (rows : List Row) → In a xs → is_empty a.defaults ≡ false
    → has_row a.id (fold with_default rows xs) ≡ true
defaults_come [] a rows here e = absurd here
defaults_come (b ∷ xs) a rows (inl is) e =
    defaults_stay xs a.id (with_default rows b) (subst (λ (r : Rule). has_row a.id (with_default rows r) ≡ true) is (default_comes rows a e))
defaults_come (b ∷ xs) a rows (inr later) e = defaults_come xs a (with_default rows b) later e

-- ---- what is said

-- no two arguments have one id
abbrev pub distinct : List Rule → Bool
distinct [] = true
distinct (a ∷ rest) = not (list_any (λ b. bytes_eq b.id a.id) rest) && distinct rest

pub none_of : {X : Type 0} (p : X → Bool) (xs : List X) (x : X) → list_any p xs ≡ false → In x xs → p x ≡ false
none_of p [] x e here = absurd here
none_of p (y ∷ ys) x e (inl is) = rw is (go (p y) (list_any p ys) e)
  where
    go : (a b : Bool) → (a || b) ≡ false → a ≡ false
    go true b e = e
    go false b e = refl
none_of p (y ∷ ys) x e (inr later) = none_of p ys x (go (p y) (list_any p ys) e) later
  where
    go : (a b : Bool) → (a || b) ≡ false → b ≡ false
    go true b e = absurd (cc)
    go false b e = e

apart : (x : Rule) (xs : List Rule) (b : Rule) → distinct (x ∷ xs) ≡ true → In b xs → b.id ≡ x.id → ⊥
apart x xs b e there same =
    let none : bytes_eq b.id x.id ≡ false = none_of (λ (r : Rule). bytes_eq r.id x.id) xs b (is_false _ (both _ _ e).0) there in
    let yes : bytes_eq b.id x.id ≡ true = (bytes_eq-Decides b.id x.id).1 same in
    cc

one_rule : (xs : List Rule) (a b : Rule) → distinct xs ≡ true → In a xs → In b xs → a.id ≡ b.id → a ≡ b
one_rule [] a b e here there same = absurd here
one_rule (x ∷ xs) a b e (inl is) (inl at) same = is ∙ sym at
one_rule (x ∷ xs) a b e (inr here) (inr there) same = one_rule xs a b (both _ _ e).1 here there same
one_rule (x ∷ xs) a b e (inl is) (inr there) same = absurd (apart x xs b e there (sym same ∙ ap (λ (r : Rule). r.id) is))
one_rule (x ∷ xs) a b e (inr here) (inl at) same = absurd (apart x xs a e here (same ∙ ap (λ (r : Rule). r.id) at))

pub found_passes : {X : Type 0} (p : X → Bool) (xs : List X) (x : X) → find p xs ≡ Some x → p x ≡ true
found_passes p [] x e = absurd (cc)
found_passes p (y ∷ ys) x e = go (p y) refl (found_passes p ys x) e
  where
    go : (b : Bool) → p y ≡ b → (find p ys ≡ Some x → p x ≡ true) → cond b (Some y) (find p ys) ≡ Some x → p x ≡ true
    go true is rec e =
        let same : y ≡ x = cc in
        subst (λ z. p z ≡ true) same is
    go false is rec e = rec e

row_said : (R : List Rule) (a : Rule) (rows : List Row) (o : Option Row) → distinct R ≡ true → In a R → AllFit R rows
    → find (λ r. bytes_eq r.id a.id) rows ≡ o → is_some o ≡ true → IsSaid a rows
row_said R a rows None one here all e some = absurd (cc)
row_said R a rows (Some r) one here all e some =
    let f = each_in (Fits R) rows r all (found_in (λ x. bytes_eq x.id a.id) rows r e) in
    let same : r.id ≡ a.id = (bytes_eq-Decides r.id a.id).0 (found_passes (λ x. bytes_eq x.id a.id) rows r e) in
    let is : f.rule ≡ a = one_rule R f.rule a one f.here here (sym f.id ∙ same) in
    record {
      text = f.text;
      first = ap (option_and_then (λ (x : Row). slice_get x.values 0)) e ∙ ap (λ (vs : List Text). slice_get vs 0) f.values;
      one = ap (option_and_then row_text) e
          ∙ ap₂ (λ (how : Reading) (vs : List Text). option_map (read_as how) (slice_get vs 0)) (f.reading ∙ ap reading_by is) f.values;
      passes = subst (λ (x : Rule). value_passes x f.text ≡ true) is f.passes;
    }

some_found : {X : Type 0} (p : X → Bool) (xs : List X) → list_any p xs ≡ true → is_some (find p xs) ≡ true
some_found p [] e = absurd (cc)
some_found p (y ∷ ys) e = go (p y) e (some_found p ys)
  where
    go : (b : Bool) → (b || list_any p ys) ≡ true → (list_any p ys ≡ true → is_some (find p ys) ≡ true)
        → is_some (cond b (Some y) (find p ys)) ≡ true
    go true e rec = refl
    go false e rec = rec e

given_found : (id : Text) (rows : List Row) → is_given id rows ≡ true → is_some (find (λ r. bytes_eq r.id id) rows) ≡ true
given_found id rows e = go (find (λ r. bytes_eq r.id id) rows) e
  where
    go : (o : Option Row) → option_map_or (λ (r : Row). explicit_source r.source) o false ≡ true → is_some o ≡ true
    go None e = absurd (cc)
    go (Some r) e = refl

-- what is checked at the end
nothing_wanted : (help sub arg : Bool) → check_kinds help sub arg ≡ [] → arg ≡ false
nothing_wanted true sub arg e = absurd (cc)
nothing_wanted false true arg e = absurd (cc)
nothing_wanted false false true e = absurd (cc)
nothing_wanted false false false e = refl

given_of : (rows : List Row) (a : Rule) → (a.required && not (is_given a.id rows)) ≡ false → a.required ≡ true → is_given a.id rows ≡ true
given_of rows a e r = go a.required (is_given a.id rows) e r
  where
    go : (b d : Bool) → (b && not d) ≡ false → b ≡ true → d ≡ true
    go true true e r = refl
    go true false e r = absurd (cc)
    go false d e r = absurd (cc)

end_said : (R : List Rule) (a : Rule) (start : List Row) → distinct R ≡ true → In a R → AllFit R (fold with_default start R)
    → list_any (λ x. x.required && not (is_given x.id (fold with_default start R))) R ≡ false
    → (a.required || not (is_empty a.defaults)) ≡ true → IsSaid a (fold with_default start R)
end_said R a start one here all checked wanted =
    row_said R a rows (find (λ r. bytes_eq r.id a.id) rows) one here all refl (go a.required refl (is_empty a.defaults) refl wanted)
  where
    rows : List Row
    rows = fold with_default start R

    go : (b : Bool) → a.required ≡ b → (d : Bool) → is_empty a.defaults ≡ d → (b || not d) ≡ true
        → is_some (find (λ r. bytes_eq r.id a.id) (fold with_default start R)) ≡ true
    go true r d is e =
        let none = none_of (λ x. x.required && not (is_given x.id (fold with_default start R))) R a checked here in
        given_found a.id (fold with_default start R) (given_of (fold with_default start R) a none r)
    go false r true is e = absurd (cc)
    go false r false is e = some_found (λ x. bytes_eq x.id a.id) (fold with_default start R) (defaults_come R a start here is)

-- what needn't be said is said, or isn't there
end_says : (R : List Rule) (a : Rule) (start : List Row) → distinct R ≡ true → In a R → AllFit R (fold with_default start R)
    → list_any (λ x. x.required && not (is_given x.id (fold with_default start R))) R ≡ false
    → IsSaidOrNeedNot a (fold with_default start R)
end_says R a start one here all checked = by_wanted (is_wanted a) refl
  where
    rows : List Row
    rows = fold with_default start R

    by_row : (o : Option Row) → find (λ r. bytes_eq r.id a.id) rows ≡ o → is_wanted a ≡ false → IsSaidOrNeedNot a rows
    by_row (Some r) e left = inl (row_said R a rows (Some r) one here all e refl)
    by_row None e left = inr (left, ap (option_and_then (λ (x : Row). slice_get x.values 0)) e, ap (option_and_then row_text) e)

    by_wanted : (b : Bool) → is_wanted a ≡ b → IsSaidOrNeedNot a rows
    by_wanted true is = inl (end_said R a start one here all checked is)
    by_wanted false is = by_row (find (λ r. bytes_eq r.id a.id) rows) refl is

-- what words say of a command without commands of its own that takes them
pub level_says : (s : Shape) (words : List Text) → Each Wants s.rules → distinct s.rules ≡ true → s.subcommand_negates_reqs ≡ false
    → level_fault s [] nothing_held words false [] ≡ []
    → (a : Rule) → In a s.rules → IsSaidOrNeedNot a (rows_after s.rules [] words)
level_says s words wants one kept e a here =
    let end = (walk s.rules [] nothing_held words).held in
    let walked_over = walk_fault s [] (walk_from nothing_held) words in
    let settling = settle_fault s.rules s.args_override_self end in
    let start = (settled s.rules end).rows in
    let rows = fold with_default start s.rules in
    let after_walk : or_else settling (or_else (defaults_fault start s.rules) (check_fault s rows false)) ≡ [] = then_none walked_over _ e in
    let at_end = walk_fits s [] words (walk_from nothing_held) wants (first_none walked_over _ e) tt in
    let settled_fit = settle_fits s.rules s.args_override_self end wants (first_none settling _ after_walk) at_end in
    let after_settling = then_none settling _ after_walk in
    let all = defaults_fit s.rules s.rules start (λ b h. h) (first_none (defaults_fault start s.rules) _ after_settling) settled_fit in
    let checked = nothing_wanted _ _ _ (then_none (defaults_fault start s.rules) (check_fault s rows false) after_settling) in
    end_says s.rules a start one here all (rw kept at checked)
