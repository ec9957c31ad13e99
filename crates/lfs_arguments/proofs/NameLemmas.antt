-- Which command a name is where it is none of these.
use Rattle.std.proofs.Common.{rules, ◌≡◌, ◌≢◌, ◌∙◌, Bool, List, [], Option, Some, ap, codes, false, inl, inr, refl, sym, true}
use Rattle.std.specs.Prelude.{◌||◌, ◌&&◌, ◌⊎◌}
use Rattle.std.specs.Option.{option_map_or}
use Rattle.std.specs.Str.{bytes_eq}
use Rattle.std.proofs.lemmas.Slice.Eq.{bytes_eq-Decides}
use Rattle.clap.specs.Words.{Row, Shape, Text}
use Rattle.lfs_grammar.proofs.Lists.{Each, contained, each_in}
use Rattle.lfs_grammar.specs.Grammar.{NamesCommand, TakesNoImage, program_commands, is_change}
use Rattle.lfs_arguments.specs.Words.{IsNoPast, IsNoTreeCommand, is_command, is_flagged, is_of_tree, is_other, is_question}

-- a command that isn't asked, and changes no tree
abbrev is_operation : Text → Bool
is_operation name =
    bytes_eq (codes "batch") name || (bytes_eq (codes "format") name || (bytes_eq (codes "pack") name || (bytes_eq (codes "repack") name
    || (bytes_eq (codes "extract") name || (bytes_eq (codes "salvage") name || (bytes_eq (codes "undo") name
    || (bytes_eq (codes "redo") name || (bytes_eq (codes "forget") name || bytes_eq (codes "adopt") name))))))))

abbrev is_known : Text → Bool
is_known name = is_operation name || (is_question name || is_other name)

all_known : Each (λ (c : Shape). is_known c.name ≡ true) program_commands
all_known = search rules

known : (name : Text) (rows : List Row) → NamesCommand (Some (name, rows)) → is_known name ≡ true
known name rows names =
    let same : names.command.name ≡ name = ap (λ (o : Option (Text × List Row)). option_map_or (λ p. p.0) o []) (sym names.is) in
    ap is_known (sym same)
    ∙ each_in (λ (c : Shape). is_known c.name ≡ true) program_commands names.command all_known (contained program_commands names.command names.here)

other_by : (a b : Bool) → a || b ≡ true → a ≡ false → b ≡ true
other_by true b is none = absurd (let bad : true ≡ false = none in cc)
other_by false b is none = is

word_by : (b : Bool) → (b ≡ true → ⊥) → b ≡ false
word_by true never = absurd (never refl)
word_by false never = refl

no_word : (w name : Text) → name ≢ w → bytes_eq w name ≡ false
no_word w name other = word_by (bytes_eq w name) (λ is. other (sym ((bytes_eq-Decides w name).0 is)))

none_by : (a b : Bool) → a ≡ false → b ≡ false → a || b ≡ false
none_by true b first second = absurd (let bad : true ≡ false = first in cc)
none_by false b first second = second

-- it is no command on a tree, nor on an image's length
pub no_command : (name : Text) → IsNoTreeCommand name → name ≢ codes "setattr" → name ≢ codes "rmattr" → name ≢ codes "grow"
    → is_command name ≡ false
no_command name tree setattr rmattr grow =
    none_by _ _ (no_word (codes "mkdir") name tree.0) (none_by _ _ (no_word (codes "put") name tree.1)
    (none_by _ _ (no_word (codes "rm") name tree.2) (none_by _ _ (no_word (codes "mv") name tree.3)
    (none_by _ _ (no_word (codes "setattr") name setattr) (none_by _ _ (no_word (codes "rmattr") name rmattr)
    (none_by _ _ (no_word (codes "grow") name grow) refl))))))

-- of what the grammar has it is one that changes a tree, or takes no image
pub other_named : (name : Text) (rows : List Row) → NamesCommand (Some (name, rows)) → IsNoPast name → name ≢ codes "format"
    → name ≢ codes "pack" → name ≢ codes "repack" → is_other name ≡ true
other_named name rows names past format pack repack =
    let operation : is_operation name ≡ false =
    none_by _ _ (no_word (codes "batch") name past.4) (none_by _ _ (no_word (codes "format") name format)
    (none_by _ _ (no_word (codes "pack") name pack) (none_by _ _ (no_word (codes "repack") name repack)
    (none_by _ _ (no_word (codes "extract") name past.5.0) (none_by _ _ (no_word (codes "salvage") name past.5.1)
    (none_by _ _ (no_word (codes "undo") name past.0) (none_by _ _ (no_word (codes "redo") name past.1)
    (none_by _ _ (no_word (codes "forget") name past.2) (no_word (codes "adopt") name past.3))))))))) in
    other_by (is_question name) (is_other name) (other_by (is_operation name) (is_question name || is_other name) (known name rows names) operation) past.5.2

first_by : (a b : Bool) → a || b ≡ true → b ≡ false → a ≡ true
first_by true b is none = refl
first_by false b is none = absurd (let bad : true ≡ false = sym is ∙ none in cc)

not_both : (a b : Bool) → a ≡ false → a && b ≡ false
not_both true b none = absurd (let bad : true ≡ false = none in cc)
not_both false b none = refl

not_word : (name w : Text) → name ≢ w → bytes_eq name w ≡ false
not_word name w other = word_by (bytes_eq name w) (λ is. other ((bytes_eq-Decides name w).0 is))

-- a change of a whole tree that removes, makes and puts nothing of its own makes an image like a folder
pub only_sync : (name : Text) (rows : List Row) → is_of_tree name rows ≡ true → name ≢ codes "rm" → name ≢ codes "mkdir"
    → name ≢ codes "put" → name ≡ codes "sync"
only_sync name rows of_tree rm mkdir put =
    let recursive = is_flagged (codes "recursive") rows in
    let parents = is_flagged (codes "parents") rows in
    let removes = bytes_eq name (codes "rm") && recursive in
    let makes = (bytes_eq name (codes "mkdir") || bytes_eq name (codes "put")) && parents in
    let no_remove : removes ≡ false = not_both (bytes_eq name (codes "rm")) recursive (not_word name (codes "rm") rm) in
    let no_make : makes ≡ false =
    not_both (bytes_eq name (codes "mkdir") || bytes_eq name (codes "put")) parents
    (none_by (bytes_eq name (codes "mkdir")) (bytes_eq name (codes "put")) (not_word name (codes "mkdir") mkdir) (not_word name (codes "put") put)) in
    let sync = bytes_eq name (codes "sync") in
    (bytes_eq-Decides name (codes "sync")).0 (first_by sync removes (first_by (sync || removes) makes of_tree no_make) no_remove)

none_left : (a b : Bool) → a || b ≡ false → a ≡ false
none_left true b none = absurd (let bad : true ≡ false = none in cc)
none_left false b none = refl

none_right : (a b : Bool) → a || b ≡ false → b ≡ false
none_right true b none = absurd (let bad : true ≡ false = none in cc)
none_right false b none = none

either : (a b : Bool) → a || b ≡ true → (a ≡ true) ⊎ (b ≡ true)
either true b is = inl refl
either false b is = inr is

other_word : (name w : Text) → bytes_eq name w ≡ false → name ≢ w
other_word name w none same = absurd (let bad : true ≡ false = sym ((bytes_eq-Decides name w).1 same) ∙ none in cc)

-- what is no change, and yet one of those that change a tree or take no image, takes no image
pub takes_none : (name : Text) → is_change name ≡ false → is_other name ≡ true → TakesNoImage name
takes_none name change other =
    let sync = none_right _ (bytes_eq name (codes "sync")) change in
    let to_batch = none_left _ (bytes_eq name (codes "sync")) change in
    let to_grow = none_left _ (bytes_eq name (codes "batch")) to_batch in
    let to_rmattr = none_left _ (bytes_eq name (codes "grow")) to_grow in
    let to_setattr = none_left _ (bytes_eq name (codes "rmattr")) to_rmattr in
    let to_mv = none_left _ (bytes_eq name (codes "setattr")) to_setattr in
    let to_rm = none_left _ (bytes_eq name (codes "mv")) to_mv in
    let to_put = none_left _ (bytes_eq name (codes "rm")) to_rm in
    let mkdir = other_word name (codes "mkdir") (none_left (bytes_eq name (codes "mkdir")) (bytes_eq name (codes "put")) to_put) in
    let put = other_word name (codes "put") (none_right (bytes_eq name (codes "mkdir")) (bytes_eq name (codes "put")) to_put) in
    let rm = other_word name (codes "rm") (none_right _ (bytes_eq name (codes "rm")) to_rm) in
    let mv = other_word name (codes "mv") (none_right _ (bytes_eq name (codes "mv")) to_mv) in
    let setattr = other_word name (codes "setattr") (none_right _ (bytes_eq name (codes "setattr")) to_setattr) in
    let rmattr = other_word name (codes "rmattr") (none_right _ (bytes_eq name (codes "rmattr")) to_rmattr) in
    let grow = other_word name (codes "grow") (none_right _ (bytes_eq name (codes "grow")) to_grow) in
    let no_sync = no_word (codes "sync") name (other_word name (codes "sync") sync) in
    let none = none_by (is_command name) (bytes_eq (codes "sync") name) (no_command name (mkdir, put, rm, mv) setattr rmattr grow) no_sync in
    elim (either (is_command name || bytes_eq (codes "sync") name || bytes_eq (codes "find") name) (bytes_eq (codes "explain") name) other) [
      | inr explain ↦ inr (sym ((bytes_eq-Decides (codes "explain") name).0 explain))
      | inl rest ↦ elim (either (is_command name || bytes_eq (codes "sync") name) (bytes_eq (codes "find") name) rest) [
        | inr find ↦ inl (sym ((bytes_eq-Decides (codes "find") name).0 find))
        | inl left ↦ absurd (let bad : true ≡ false = sym left ∙ none in cc)
      ]
    ]
