-- What a command of the grammar takes is said, where it is named with all that it takes.
use Rattle.std.proofs.Common.{rules, ◌≡◌, ◌⊎◌, ◌∙◌, List, [], ◌∷◌, Option, Some, Bool, true, false}
use Rattle.std.proofs.Common.{sym, ap, subst, refl, find, inl, inr, arith}
use Rattle.std.proofs.Common.{codes}
use Rattle.std.specs.Prelude.{not, ◌&&◌}
use Rattle.std.specs.List.{list_any}
use Rattle.std.specs.Option.{option_map_or}
use Rattle.std.specs.Str.{bytes_eq}
use Rattle.std.proofs.lemmas.Slice.Eq.{bytes_eq-Decides}
use Rattle.clap.specs.Words.{Row, Rule, Shape, Text}
use Rattle.clap.proofs.SimpleLemmas.{is_false}
use Rattle.clap.proofs.WalkLemmas.{both}
use Rattle.lfs_grammar.proofs.FaultlessRows.{none_of}
use Rattle.lfs_grammar.proofs.Lists.{Each, In, contained, each, each_in}
use Rattle.lfs_grammar.specs.Grammar.{IsNumber, IsSaid, IsSaidOrNeedNot, NamesCommand, TakesNoImage, attr_max, attr_max_or_source, block, program_commands}
use Rattle.lfs_grammar.specs.Grammar.{count, file_max, file_max_or_source, inline_max, is_change, is_wanted, keep, name_max, name_max_or_source}
use Rattle.lfs_grammar.specs.Grammar.{new_block, new_count, steps, word}

-- ---- the command of a name

abbrev pub rules_at : Text → List Rule
rules_at name = option_map_or (λ (c : Shape). c.rules) (find (λ c. bytes_eq c.name name) program_commands) []

abbrev distinct_names : List Shape → Bool
distinct_names [] = true
distinct_names (c ∷ rest) = not (list_any (λ d. bytes_eq d.name c.name) rest) && distinct_names rest

same_word : (a : Text) → bytes_eq a a ≡ true
same_word a = (bytes_eq-Decides a a).1 refl

none_other : (c : Shape) (rest : List Shape) (d : Shape) → distinct_names (c ∷ rest) ≡ true → In d rest → bytes_eq c.name d.name ≡ false
none_other c rest d one here = go (bytes_eq c.name d.name) refl
  where
    go : (b : Bool) → bytes_eq c.name d.name ≡ b → bytes_eq c.name d.name ≡ false
    go false is = is
    go true is =
        let same : c.name ≡ d.name = (bytes_eq-Decides c.name d.name).0 is in
        let other : bytes_eq d.name c.name ≡ false =
        none_of (λ (x : Shape). bytes_eq x.name c.name) rest d (is_false _ (both _ _ one).0) here in
        let yes : bytes_eq d.name c.name ≡ true = (bytes_eq-Decides d.name c.name).1 (sym same) in
        cc

found_again : (all : List Shape) (d : Shape) → distinct_names all ≡ true → In d all → find (λ c. bytes_eq c.name d.name) all ≡ Some d
found_again [] d one here = absurd here
found_again (c ∷ rest) d one (inl is) =
    let yes : bytes_eq c.name d.name ≡ true = (bytes_eq-Decides c.name d.name).1 (ap (λ (x : Shape). x.name) (sym is)) in
    rw yes (ap (λ (x : Shape). Some x) (sym is))
found_again (c ∷ rest) d one (inr later) = rw (none_other c rest d one later) (found_again rest d (both _ _ one).1 later)

pub all_distinct : distinct_names program_commands ≡ true
all_distinct = refl

called : (name : Text) (rows : List Row) (names : NamesCommand (Some (name, rows))) → names.command.name ≡ name
called name rows names = ap (λ (o : Option (Text × List Row)). option_map_or (λ p. p.0) o []) (sym names.is)

-- what the command takes is said, or needn't be
command_said : (name : Text) (rows : List Row) (names : NamesCommand (Some (name, rows)))
    → Each (λ rule. IsSaidOrNeedNot rule rows) names.command.rules
command_said name rows names =
    let has : names.rows ≡ rows = ap (λ (o : Option (Text × List Row)). option_map_or (λ p. p.1) o []) (sym names.is) in
    subst (λ (r : List Row). Each (λ rule. IsSaidOrNeedNot rule r) names.command.rules) has
    (each (λ rule. IsSaidOrNeedNot rule names.rows) names.command.rules names.said)

-- what must be said is
wanted_said : (rule : Rule) (rows : List Row) → is_wanted rule ≡ true → IsSaidOrNeedNot rule rows → IsSaid rule rows
wanted_said rule rows wanted (inl said) = said
wanted_said rule rows wanted (inr (left, first, one)) = absurd (cc)

each_wanted : (all : List Rule) (rows : List Row) → Each (λ rule. IsSaidOrNeedNot rule rows) all
    → Each (λ rule. is_wanted rule ≡ true → IsSaid rule rows) all
each_wanted [] rows says = tt
each_wanted (rule ∷ all) rows says = (λ wanted. wanted_said rule rows wanted says.0, each_wanted all rows says.1)

-- what the command of this name takes is said, or needn't be
pub says_of : (name word : Text) (rows : List Row) → name ≡ word → NamesCommand (Some (name, rows))
    → Each (λ rule. IsSaidOrNeedNot rule rows) (rules_at word)
says_of name word rows same names =
    let command = names.command in
    let found : find (λ c. bytes_eq c.name command.name) program_commands ≡ Some command =
    found_again program_commands command all_distinct (contained program_commands command names.here) in
    let rules : rules_at word ≡ command.rules =
    ap rules_at (sym (called name rows names ∙ same)) ∙ ap (λ (o : Option Shape). option_map_or (λ (c : Shape). c.rules) o []) found in
    subst (λ (rules : List Rule). Each (λ rule. IsSaidOrNeedNot rule rows) rules) (sym rules) (command_said name rows names)

-- what it takes and must be said is said
pub said_of : (name word : Text) (rows : List Row) → name ≡ word → NamesCommand (Some (name, rows))
    → Each (λ rule. is_wanted rule ≡ true → IsSaid rule rows) (rules_at word)
said_of name word rows same names = each_wanted (rules_at word) rows (says_of name word rows same names)

pub count_is : IsNumber count
count_is = (2, 65536, refl, omega arith)

pub new_count_is : IsNumber new_count
new_count_is = (2, 65536, refl, omega arith)

pub name_max_is : IsNumber name_max
name_max_is = (1, 1022, refl, omega arith)

pub file_max_is : IsNumber file_max
file_max_is = (1, 2147483647, refl, omega arith)

pub attr_max_is : IsNumber attr_max
attr_max_is = (1, 1022, refl, omega arith)

pub name_max_or_source_is : IsNumber name_max_or_source
name_max_or_source_is = (1, 1022, refl, omega arith)

pub file_max_or_source_is : IsNumber file_max_or_source
file_max_or_source_is = (1, 2147483647, refl, omega arith)

pub attr_max_or_source_is : IsNumber attr_max_or_source
attr_max_or_source_is = (1, 1022, refl, omega arith)

pub inline_max_is : IsNumber inline_max
inline_max_is = (0, 2147483647, refl, omega arith)

pub keep_is : IsNumber keep
keep_is = (1, 1000, refl, omega arith)

pub steps_is : IsNumber steps
steps_is = (1, 1000, refl, omega arith)

-- each command but those that look for images or explain takes the block size and an image
abbrev TakesImage : Shape → Type 0
TakesImage c =
    ((rest : List Rule) × (c.rules ≡ block ∷ word (codes "image") ∷ rest))
    ⊎ ((rest : List Rule) × (c.rules ≡ new_block ∷ word (codes "image") ∷ rest))
    ⊎ TakesNoImage c.name

takes_image : Each TakesImage program_commands
takes_image = search rules

-- the block size is said, in whatever way it is, and the image
abbrev pub SaysImage : List Row → Type 0
SaysImage rows = ((rule : Rule) × (rule.id ≡ codes "block") × IsSaid rule rows) × IsSaid (word (codes "image")) rows

image_of : (rows : List Row) (first : Rule) (rules rest : List Rule) → first.id ≡ codes "block" → is_wanted first ≡ true
    → rules ≡ first ∷ word (codes "image") ∷ rest → Each (λ rule. IsSaidOrNeedNot rule rows) rules → SaysImage rows
image_of rows first rules rest named wanted is said =
    let all : Each (λ rule. IsSaidOrNeedNot rule rows) (first ∷ word (codes "image") ∷ rest) =
    subst (λ (r : List Rule). Each (λ rule. IsSaidOrNeedNot rule rows) r) is said in
    ((first, named, wanted_said first rows wanted all.0), wanted_said (word (codes "image")) rows refl all.1.0)

pub image_said : (name : Text) (rows : List Row) → NamesCommand (Some (name, rows)) → TakesNoImage name ⊎ SaysImage rows
image_said name rows names =
    elim (each_in TakesImage program_commands names.command takes_image (contained program_commands names.command names.here)) [
      | inl takes ↦ inr (image_of rows block names.command.rules takes.0 refl refl takes.1 (command_said name rows names))
      | inr (inl takes) ↦ inr (image_of rows new_block names.command.rules takes.0 refl refl takes.1 (command_said name rows names))
      | inr (inr none) ↦ inl (subst TakesNoImage (called name rows names) none)
    ]

-- each command that changes an image takes how many images of the past are kept
abbrev TakesKeep : Shape → Type 0
TakesKeep c = In keep c.rules ⊎ (is_change c.name ≡ false)

takes_keep : Each TakesKeep program_commands
takes_keep = search rules

-- how many images are kept is said, or it isn't
pub keep_says : (name : Text) (rows : List Row) → is_change name ≡ true → NamesCommand (Some (name, rows)) → IsSaidOrNeedNot keep rows
keep_says name rows changes names =
    elim (each_in TakesKeep program_commands names.command takes_keep (contained program_commands names.command names.here)) [
      | inl takes ↦ each_in (λ rule. IsSaidOrNeedNot rule rows) names.command.rules keep (command_said name rows names) takes
      | inr other ↦
          let same : is_change names.command.name ≡ is_change name = ap is_change (called name rows names) in
          absurd (cc)
    ]
