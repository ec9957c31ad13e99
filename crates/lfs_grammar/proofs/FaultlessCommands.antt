-- Words that a command line takes name a command of it, and say all that it takes.
use Rattle.std.proofs.Common.{rules, ◌≡◌, ◌∙◌, inl, inr, ℕ, List, [], ◌∷◌, Option, Some, None, Bool, true, false, sym, ap, ap₂, refl, cond}
use Rattle.std.proofs.Common.{find, fold, is_some, codes, subst, option_map}
use Rattle.std.specs.Prelude.{Result, Ok, Err, IfOk, IfErr, ◌||◌, ◌&&◌, not}
use Rattle.std.specs.Option.{option_map_or}
use Rattle.std.specs.Str.{bytes_eq}
use Rattle.std.proofs.lemmas.Slice.Eq.{bytes_eq-Decides}
use Rattle.clap.specs.Facts.{parser_of_value}
use Rattle.clap.specs.Kinds.{FailsBy, HasKind, check_kinds, or_else}
use Rattle.clap.specs.Lexer.{long_of, short_of}
use Rattle.clap.specs.Values.{read_as, reading_of}
use Rattle.clap.specs.ValueTests.{accepts}
use Rattle.clap.specs.declared.builder.value_parser.ValueParser.{ValueParser}
use Rattle.clap.specs.Faults.{built_fault, fault_of, is_simple_and_free, check_fault, defaults_fault, entered_fault, level_fault}
use Rattle.clap.specs.Faults.{other_fault, settle_fault, step_fault, turn_fault, walk_fault, word_fault}
use Rattle.clap.specs.Simple.{App, HasMatchesOf, Shape, argument_words, built, entered, is_simple, subcommand_of, subcommand_rows_of}
use Rattle.clap.specs.Simple.{label_of, names_of, rows_at}
use Rattle.clap.specs.declared.error.Error.{Error}
use Rattle.clap.specs.declared.parser.matches.ArgMatches.{ArgMatches}
use Rattle.clap.specs.Walk.{Held, Names, Outcome, Row, Rule, Step, Text, Waiting, Walk, after_flag, after_step, answers_to, arg_by_index}
use Rattle.clap.specs.Walk.{bundle}
use Rattle.clap.specs.Walk.{arg_by_long, done, idle, long_met, long_or_other, next, nothing_held, option, plain, plain_word}
use Rattle.clap.specs.Walk.{positional}
use Rattle.clap.specs.Walk.{finished, first_of, one_of, settled, reading_by, refused, rows_after, short_or_plain, subcommand}
use Rattle.clap.specs.Walk.{subcommand_met, subcommand_or_other, to_positional, trailing}
use Rattle.clap.specs.Walk.{value, waits, walk, walk_from, walked, walked_from, word_met}
use Rattle.clap.specs.declared.error.kind.ErrorKind.TheVariants.{DisplayHelp, InvalidSubcommand}
use Rattle.lfs_grammar.proofs.FaultlessRows.{Wants, distinct, first_none, found_in, found_passes, level_says, then_none}
use Rattle.lfs_grammar.specs.Grammar.{IsSaid, IsSaidOrNeedNot, IsMatched, IsTaken, NamesCommand, program_commands, grammar, is_wanted}
use Rattle.lfs_grammar.proofs.Lists.{Each, In, contains, each_in, every}

-- ---- no step leads to the help

abbrev help_name : Text
help_name = codes "help"

abbrev NotHelp : Step → Type 0
NotHelp (subcommand name) = bytes_eq name help_name ≡ false
NotHelp _ = Unit {0}

plain_step : (R : List Rule) (waiting : Waiting) (word : Text) (h : Held) → NotHelp (plain_word R waiting word h).1
plain_step R idle word h = tt
plain_step R positional word h = tt
plain_step R (option id) word h = tt

flag_step : (R : List Rule) (waiting : Waiting) (word : Text) (h : Held) (outcome : Outcome)
    → NotHelp (after_flag R waiting word h outcome).1
flag_step R waiting word h done = tt
flag_step R waiting word h (waits id) = tt
flag_step R waiting word h plain = plain_step R waiting word h
flag_step R waiting word h refused = plain_step R waiting word h

other_step : (R : List Rule) (waiting : Waiting) (word : Text) (p : Option (Text × Option Text)) (h : Held)
    → NotHelp (long_or_other R waiting word p h).1
other_step R waiting word (Some p) h =
    let met = long_met R (arg_by_long R p.0) p.1 h in
    flag_step R waiting word met.0 met.1
other_step R waiting word None h = go (short_of word)
  where
    go : (flags : Option Text) → NotHelp (short_or_plain R waiting word flags h).1
    go None = plain_step R waiting word h
    go (Some flags) = flag_step R waiting word (bundle R flags h).0 (bundle R flags h).1

word_step : (s : Shape) (names : Names) (is_trailing : Bool) (waiting : Waiting) (position : ℕ) (word : Text) (h : Held)
    → s.disable_help_subcommand ≡ false → word_fault s names is_trailing waiting word h ≡ []
    → NotHelp (word_met s.rules names is_trailing waiting position word h).1
word_step s names true waiting position word h kept e = tt
word_step s names false waiting position word h kept e = go (subcommand_met names waiting word) e
  where
    dashes : (b : Bool) → NotHelp (cond b (h, trailing position) (long_or_other s.rules waiting word (long_of word) h)).1
    dashes true = tt
    dashes false = other_step s.rules waiting word (long_of word) h

    not_help : (b d : Bool) → d ≡ false → cond (b && not d) (DisplayHelp ∷ InvalidSubcommand ∷ []) [] ≡ [] → b ≡ false
    not_help true true k e = absurd (cc)
    not_help true false k e = absurd (cc)
    not_help false d k e = refl

    go : (o : Option Text) → other_fault s o word h ≡ [] → NotHelp (subcommand_or_other s.rules o waiting position word h).1
    go (Some name) e = not_help (bytes_eq name help_name) s.disable_help_subcommand kept e
    go None e = dashes (bytes_eq word (45 ∷ 45 ∷ []))

abbrev StopsAtCommand : Option (Text × List Text) → Type 0
StopsAtCommand None = Unit {0}
StopsAtCommand (Some p) = bytes_eq p.0 help_name ≡ false

step_stops : (R : List Rule) (word : Text) (w : Walk) (h : Held) (step : Step) → NotHelp step → StopsAtCommand w.stopped
    → StopsAtCommand (after_step R word w h step).stopped
step_stops R word w h (next waiting) fine stops = stops
step_stops R word w h (trailing position) fine stops = stops
step_stops R word w h (subcommand name) fine stops = fine
step_stops R word w h value fine stops = go (arg_by_index R w.position)
  where
    go : (o : Option Rule) → StopsAtCommand (to_positional R o word w h).stopped
    go None = stops
    go (Some a) = tt

turn_stops : (s : Shape) (names : Names) (w : Walk) (word : Text) → s.disable_help_subcommand ≡ false → turn_fault s names w word ≡ []
    → StopsAtCommand w.stopped → StopsAtCommand (walked s.rules names w word).stopped
unfolding walked
turn_stops s names w word kept e stops = go w.stopped stops e
  where
    go : (o : Option (Text × List Text)) → StopsAtCommand o
        → cond (is_some o) [] (or_else (word_fault s names w.is_trailing w.waiting word w.held)
        (step_fault s w.position (word_met s.rules names w.is_trailing w.waiting w.position word w.held).0
        (word_met s.rules names w.is_trailing w.waiting w.position word w.held).1)) ≡ []
        → StopsAtCommand (walked_from s.rules names o w word).stopped
    go (Some p) stop e = stop
    go None stop e =
        let met = word_met s.rules names w.is_trailing w.waiting w.position word w.held in
        let faults = word_fault s names w.is_trailing w.waiting word w.held in
        step_stops s.rules word w met.0 met.1
        (word_step s names w.is_trailing w.waiting w.position word w.held kept (first_none faults _ e)) stops

walk_stops : (s : Shape) (names : Names) (words : List Text) (w : Walk) → s.disable_help_subcommand ≡ false
    → walk_fault s names w words ≡ []
    → StopsAtCommand w.stopped → StopsAtCommand (fold (walked s.rules names) w words).stopped
unfolding walk_fault
walk_stops s names [] w kept e stops = stops
walk_stops s names (word ∷ rest) w kept e stops =
    walk_stops s names rest (walked s.rules names w word) kept (then_none _ _ e)
    (turn_stops s names w word kept (first_none (turn_fault s names w word) _ e) stops)

-- ---- program_commands, and what building makes of them

-- arguments, and the same as they are built
abbrev pub AreBuilt : List Rule → List Rule → Type 0
AreBuilt [] made = Unit {0}
AreBuilt (a ∷ rules) [] = ⊥
AreBuilt (a ∷ rules) (b ∷ made) =
    (b.id ≡ a.id) × (b.ignore_case ≡ a.ignore_case) × (parser_of_value b.parser ≡ parser_of_value a.parser)
    × ((not (is_wanted a) || is_wanted b) ≡ true)
    × AreBuilt rules made

said_built : (a b : Rule) (rows : List Row) → b.id ≡ a.id → b.ignore_case ≡ a.ignore_case
    → parser_of_value b.parser ≡ parser_of_value a.parser
    → IsSaid b rows → IsSaid a rows
said_built a b rows id case parser said = record {
  text = said.text;
  first = subst (λ (i : Text). first_of i rows ≡ Some said.text) id said.first;
  one = subst (λ (i : Text). one_of i rows ≡ Some (read_as (reading_by a) said.text)) id
      (said.one ∙ ap (λ (p : ValueParser). Some (read_as (reading_of p) said.text)) parser);
  passes = ap₂ (λ (i : Bool) (p : ValueParser). accepts i p said.text) (sym case) (sym parser) ∙ said.passes;
}

-- what needn't be said once it is built needn't be before
left_too : (x y : Bool) → (not x || y) ≡ true → y ≡ false → x ≡ false
left_too true y wanted left = absurd (cc)
left_too false y wanted left = refl

says_built : (a b : Rule) (rows : List Row) → b.id ≡ a.id → b.ignore_case ≡ a.ignore_case
    → parser_of_value b.parser ≡ parser_of_value a.parser → (not (is_wanted a) || is_wanted b) ≡ true
    → IsSaidOrNeedNot b rows → IsSaidOrNeedNot a rows
says_built a b rows id case parser wanted (inl said) = inl (said_built a b rows id case parser said)
says_built a b rows id case parser wanted (inr (left, first, one)) = inr (
  left_too (is_wanted a) (is_wanted b) wanted left,
  subst (λ (i : Text). first_of i rows ≡ None) id first,
  subst (λ (i : Text). one_of i rows ≡ None) id one,
)

all_said : (rules made : List Rule) (rows : List Row) → AreBuilt rules made
    → ((b : Rule) → In b made → IsSaidOrNeedNot b rows) → Each (λ a. IsSaidOrNeedNot a rows) rules
all_said [] made rows built said = tt
all_said (a ∷ rules) [] rows built said = absurd built
all_said (a ∷ rules) (b ∷ made) rows built said = (
  says_built a b rows built.0 built.1 built.2 built.3 (said b (inl refl)),
  all_said rules made rows built.4 (λ x here. said x (inr here)),
)

-- a command, and the same as it is built
pub record IsBuilt (command made : Shape) : Type 0 where
  pub name : made.name ≡ command.name
  pub rules : AreBuilt command.rules made.rules
  pub wants : Each Wants made.rules
  pub distinct : distinct made.rules ≡ true
  pub kept : made.subcommand_negates_reqs ≡ false

-- the program_commands, and the same as they are built, with the help behind them
abbrev pub CommandsBuilt : List Shape → List Shape → Type 0
CommandsBuilt [] made = Each (λ s. (s.name ≡ help_name) × (s.aliases ≡ [])) made
CommandsBuilt (c ∷ rest) [] = ⊥
CommandsBuilt (c ∷ rest) (s ∷ made) = IsBuilt c s × CommandsBuilt rest made

pub record Found (all : List Shape) (made : Shape) : Type 0 where
  pub command : Shape
  pub here : In command all
  pub built : IsBuilt command made

alone : (b : Bool) → (b || false) ≡ true → b ≡ true
alone true e = refl
alone false e = e

command_found : (all made : List Shape) (s : Shape) (word : Text) → CommandsBuilt all made → In s made → answers_to word (label_of s) ≡ true
    → bytes_eq word help_name ≡ false → Found all s
command_found [] made s word built here answers other =
    let help = each_in (λ x. (x.name ≡ help_name) × (x.aliases ≡ [])) made s built here in
    let named : (bytes_eq help_name word || false) ≡ true = rw (help.0, help.1) at answers in
    let is : help_name ≡ word = (bytes_eq-Decides help_name word).0 (alone _ named) in
    let yes : bytes_eq word help_name ≡ true = (bytes_eq-Decides word help_name).1 (sym is) in
    absurd (cc)
command_found (c ∷ all) [] s word built here answers other = absurd built
command_found (c ∷ all) (x ∷ made) s word built (inl is) answers other =
    record { command = c; here = inl refl; built = subst (IsBuilt c) (sym is) built.0 }
command_found (c ∷ all) (x ∷ made) s word built (inr later) answers other =
    let rest = command_found all made s word built.1 later answers other in
    record { command = rest.command; here = inr rest.here; built = rest.built }

-- ---- the whole line

command_wanted : (help arg has : Bool) → check_kinds help (not has && true) arg ≡ [] → has ≡ true
command_wanted true arg has e = absurd (cc)
command_wanted false arg true e = refl
command_wanted false arg false e = absurd (cc)

pub record Said (all : List Shape) (named : Option (Text × List Row)) : Type 0 where
  pub command : Shape
  pub rows : List Row
  pub is : named ≡ Some (command.name, rows)
  pub here : In command all
  pub said : Each (λ rule. IsSaidOrNeedNot rule rows) command.rules

command_said : (all : List Shape) (b : App) (stop : Option (Text × List Text)) → CommandsBuilt all b.subs
    → StopsAtCommand stop → is_some (entered b stop) ≡ true → entered_fault b stop ≡ [] → Said all (entered b stop)
command_said all b None built stops has e = absurd (cc)
command_said all b (Some p) built stops has e =
    go (find (λ s. answers_to p.0 (label_of s)) b.subs) (found_in (λ s. answers_to p.0 (label_of s)) b.subs)
    (found_passes (λ s. answers_to p.0 (label_of s)) b.subs) has e
  where
    go : (o : Option Shape) → ((s : Shape) → o ≡ Some s → In s b.subs) → ((s : Shape) → o ≡ Some s → answers_to p.0 (label_of s) ≡ true)
        → is_some (option_map (λ s. rows_at s p.1) o) ≡ true → option_map_or (λ s. level_fault s [] nothing_held p.1 false []) o [] ≡ []
        → Said all (option_map (λ s. rows_at s p.1) o)
    go None of answers has e = absurd (cc)
    go (Some s) of answers has e =
        let found = command_found all b.subs s p.0 built (of s refl) (answers s refl) stops in
        let made = found.built in
        let rows = rows_after s.rules [] p.1 in
        let said = level_says s p.1 made.wants made.distinct made.kept e in
        record {
          command = found.command;
          rows = rows;
          is = ap (λ (name : Text). Some (name, rows)) made.name;
          here = found.here;
          said = all_said found.command.rules s.rules rows made.rules said;
        }

line_said : (all : List Shape) (b : App) (words : List Text) → CommandsBuilt all b.subs → b.top.disable_help_subcommand ≡ false
    → b.top.subcommand_required ≡ true → built_fault b nothing_held words ≡ []
    → Said all (entered b (walk b.top.rules (names_of b) nothing_held words).stopped)
line_said all b words built kept required e =
    let over = walk b.top.rules (names_of b) nothing_held words in
    let has = is_some (entered b over.stopped) in
    let walking = walk_fault b.top (names_of b) (walk_from nothing_held) words in
    let below = entered_fault b over.stopped in
    let settling = settle_fault b.top.rules b.top.args_override_self over.held in
    let start = (settled b.top.rules over.held).rows in
    let after_walk = then_none walking _ e in
    let after_below = then_none below _ after_walk in
    let after_settling = then_none settling _ after_below in
    let checked : check_fault b.top (finished b.top.rules over.held) has ≡ [] =
    then_none (defaults_fault start b.top.rules) _ after_settling in
    command_said all b over.stopped built
    (walk_stops b.top (names_of b) words (walk_from nothing_held) kept (first_none walking _ e) tt)
    (command_wanted _ _ has (rw required at checked))
    (first_none below _ after_walk)

-- ---- the program's command line

commands_built : CommandsBuilt program_commands (built grammar).subs
commands_built = search rules

pub taken_said : (words : List Text) → IsTaken words → Said program_commands (subcommand_of grammar words)
taken_said words e = line_said program_commands (built grammar) (argument_words grammar words) commands_built refl refl e

grammar_is_simple : is_simple grammar ≡ true
grammar_is_simple = refl

-- words that are taken name a command with all that it takes
pub taken_named : (words : List Text) → IsTaken words → NamesCommand (subcommand_of grammar words)
taken_named words e =
    let said = taken_said words e in
    record {
      command = said.command;
      rows = said.rows;
      is = said.is;
      here = contains program_commands said.command said.here;
      said = every (λ rule. IsSaidOrNeedNot rule said.rows) said.command.rules said.said;
    }

-- the matches of words that are taken
pub words_matched : (app : App) (words : List Text) (m : ArgMatches) → app ≡ grammar → HasMatchesOf app words m → fault_of app words ≡ []
    → IsMatched words m
words_matched app words m is has taken =
    let of_grammar = subst (λ (a : App). HasMatchesOf a words m) is has in
    let none : IsTaken words = ap (λ (a : App). fault_of a words) (sym is) ∙ taken in
    let named : subcommand_rows_of m ≡ subcommand_of grammar words = (of_grammar grammar_is_simple).1 in
    record {
      taken = none;
      named = named;
      says = subst NamesCommand (sym named) (taken_named words none);
    }

pub grammar_is_free : (app : App) → app ≡ grammar → is_simple_and_free app ≡ true
grammar_is_free app is = ap is_simple_and_free is ∙ refl

-- what a parse gives
pub matched_ok : (app : App) (words : List Text) (r : Result ArgMatches Error) → app ≡ grammar → IfOk r (HasMatchesOf app words)
    → (is_simple_and_free app ≡ true → FailsBy (fault_of app words) r) → IfOk r (IsMatched words)
matched_ok app words (Ok m) is has fails = words_matched app words m is has (fails (grammar_is_free app is))
matched_ok app words (Err e) is has fails = tt

pub matched_err : (app : App) (words : List Text) (r : Result ArgMatches Error) → app ≡ grammar
    → (is_simple_and_free app ≡ true → FailsBy (fault_of app words) r) → IfErr r (HasKind (fault_of grammar words))
matched_err app words (Ok m) is fails = tt
matched_err app words (Err e) is fails = subst (λ (a : App). HasKind (fault_of a words) e) is (fails (grammar_is_free app is))
