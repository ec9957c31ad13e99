-- The program's command line as data: its program_commands, in their order, and the words that each takes (own).
use Rattle.std.specs.Prelude.{ℕ, ℤ, ◌<◌, ◌^◌, ◌≡◌, ◌⊎◌, ◌||◌, Bool, not, Option, List, [], ◌∷◌, ◌++◌, Some, None, true, false, codes, fold, map, max, pos}
use Rattle.std.specs.List.{All, Contains}
use Rattle.std.specs.Str.{bytes_eq}
use Rattle.clap.specs.Takes.{value_passes}
use Rattle.clap.specs.Walk.{is_empty, reading_by}
use Rattle.clap.specs.Words.{App, Row, Rule, Shape, Text, fault_of, first_of, new_app, new_rule, one_of, read_as, subcommand_of}
use Rattle.clap.specs.Words.{subcommand_rows_of, with_rule, with_subcommand}
use Rattle.clap.specs.declared.parser.matches.ArgMatches.{ArgMatches}
use Rattle.clap.specs.declared.builder.action.ArgAction.TheVariants.{SetTrue}
use Rattle.clap.specs.declared.builder.value_parser.ValueParser.TheVariants as vp
use Rattle.clap.specs.declared.builder.value_parser.ValueParser.TheVariants.{Signed}
use Rattle.lfs_grammar.specs.declared.argument.Argument.{Argument}
use Rattle.lfs_grammar.specs.declared.argument.Argument.TheVariants as argument
use Rattle.lfs_grammar.specs.declared.argument.ArgumentRow.{ArgumentRow}
use Rattle.lfs_grammar.specs.declared.argument.Form.{Form}
use Rattle.lfs_grammar.specs.declared.argument.Form.TheVariants as form
use Rattle.lfs_grammar.specs.declared.grammar.CommandRow.{CommandRow}

-- a word that must be there
abbrev pub word : Text → Rule
word id = record (new_rule id) { value_names = 1; required = true }

-- an option that is named as its long name, which needn't be said
abbrev pub option : Text → Rule
option id = record (new_rule id) { long = Some id; value_names = 1 }

-- an option that is a whole number from the first to the second
abbrev pub number : Text → ℕ → ℕ → Rule
number id least most = record (option id) { parser = Some (Signed (pos least) (pos most)) }

-- the same with a number that stands where none is said
abbrev pub number_or : Text → ℕ → ℕ → Text → Rule
number_or id least most default = record (number id least most) { defaults = default ∷ [] }

-- an option without a value, which needn't be said
abbrev pub flag : Text → Rule
flag id = record (new_rule id) { long = Some id; action = Some SetTrue; parser = Some vp.Bool }

-- the block size: `-b` or `--block`, a text, and 4096 where it isn't said
abbrev pub block : Rule
block = record (option (codes "block")) { short = Some 98; defaults = codes "4096" ∷ [] }

-- the block size of an image that is made: a whole number from 256 to 65536
abbrev pub new_block : Rule
new_block = record block { parser = Some (Signed (pos 256) (pos 65536)) }

-- the number of blocks: `--count`, a whole number from 2 to 65536
abbrev pub count : Rule
count = number (codes "count") 2 65536

-- the number of blocks that an image gets: a word that is a whole number from 2 to 65536, which needn't be said
abbrev pub new_count : Rule
new_count = record (new_rule (codes "count")) { value_names = 1; parser = Some (Signed (pos 2) (pos 65536)) }

-- the size of the image, in place of the number of blocks
abbrev pub size : Rule
size = option (codes "size")

-- the greatest lengths that the superblock states: of a name, 255 where it isn't said; of a file, as much as an image may state;
-- of an attribute, 1022
abbrev pub name_max : Rule
name_max = number_or (codes "name-max") 1 1022 (codes "255")

abbrev pub file_max : Rule
file_max = number_or (codes "file-max") 1 2147483647 (codes "2147483647")

abbrev pub attr_max : Rule
attr_max = number_or (codes "attr-max") 1 1022 (codes "1022")

-- the same of an image that is made of another one, whose limits stand where they aren't said
abbrev pub name_max_or_source : Rule
name_max_or_source = number (codes "name-max") 1 1022

abbrev pub file_max_or_source : Rule
file_max_or_source = number (codes "file-max") 1 2147483647

abbrev pub attr_max_or_source : Rule
attr_max_or_source = number (codes "attr-max") 1 1022

-- how long a file may be that stands in its entry, or is where it isn't listed: `--inline-max`, a whole number, which needn't be said
abbrev pub inline_max : Rule
inline_max = number (codes "inline-max") 0 2147483647

-- how many images of the past are kept: `--keep`, a whole number from 1 to 1,000, which needn't be said
abbrev pub keep : Rule
keep = number (codes "keep") 1 1000

-- how many changes are taken back or made again: `--steps`, a whole number from 1 to 1,000, and 1 where it isn't said
abbrev pub steps : Rule
steps = number_or (codes "steps") 1 1000 (codes "1")

-- the file that contents are read from, in place of standard input
abbrev pub contents : Rule
contents = record (option (codes "contents")) { long = Some (codes "from") }

-- the file that steps are read from, in place of standard input: a word that needn't be said
abbrev pub script : Rule
script = record (new_rule (codes "script")) { value_names = 1 }

-- no file is replaced
abbrev pub is_new : Rule
is_new = flag (codes "new")

-- a journal that has changes is replaced
abbrev pub replace : Rule
replace = flag (codes "replace")

-- it is printed how many blocks each path takes
abbrev pub sum : Rule
sum = flag (codes "sum")

-- the steps of a script are one change
abbrev pub one : Rule
one = flag (codes "one")

-- only the status says whether two images differ
abbrev pub quiet : Rule
quiet = flag (codes "quiet")

-- it is printed as JSON
abbrev pub json : Rule
json = flag (codes "json")

-- the digests of contents are printed too
abbrev pub digests : Rule
digests = flag (codes "sha256")

-- an option without a value that has a letter too
abbrev pub flag_or : Text → ℕ → Rule
flag_or id letter = record (flag id) { short = Some letter }

-- all goes that is below a directory too: `-r`
abbrev pub recursive : Rule
recursive = flag_or (codes "recursive") 114

-- parents are made that lack: `-p`
abbrev pub parents : Rule
parents = flag_or (codes "parents") 112

-- a path in the image, which needn't be said
abbrev pub path_or_root : Rule
path_or_root = record (new_rule (codes "path")) { value_names = 1 }

-- images are read as a device does
abbrev pub device : Rule
device = flag (codes "device")

-- where in its file the image begins that is read: `--offset`, a text, which needn't be said
abbrev pub offset : Rule
offset = option (codes "offset")

-- the block size of the image that another one is made of: `--from-block`, a text, and `auto` where it isn't said
abbrev pub from_block : Rule
from_block = record (option (codes "from-block")) { defaults = codes "auto" ∷ [] }

-- the state before commits of a later disk version is taken
abbrev pub older : Rule
older = flag (codes "older")

-- up to so many words that needn't be said
abbrev pub spare_words : Text → ℕ → Rule
spare_words id most =
    record (new_rule id) { value_names = 1; range = Some (record { start_inclusive = 1; end_inclusive = max most 1 }) }

-- the faults that are explained: up to 64 words, which needn't be said
abbrev pub faults : Rule
faults = spare_words (codes "fault") 64

-- what stands for an argument
abbrev pub rule_at : Argument → Rule
rule_at argument.Block = block
rule_at argument.NewBlock = new_block
rule_at argument.Count = count
rule_at argument.NewCount = new_count
rule_at argument.Size = size
rule_at argument.Least = flag (codes "least")
rule_at argument.LeastOfSource = flag (codes "least")
rule_at argument.NameMax = name_max
rule_at argument.FileMax = file_max
rule_at argument.AttrMax = attr_max
rule_at argument.NameMaxOrSource = name_max_or_source
rule_at argument.FileMaxOrSource = file_max_or_source
rule_at argument.AttrMaxOrSource = attr_max_or_source
rule_at argument.New = is_new
rule_at argument.Replace = replace
rule_at argument.Sum = sum
rule_at argument.One = one
rule_at argument.Quiet = quiet
rule_at argument.Json = json
rule_at argument.Sha256 = digests
rule_at argument.Recursive = recursive
rule_at argument.Parents = parents
rule_at argument.Device = device
rule_at argument.Offset = offset
rule_at argument.OffsetInSource = offset
rule_at argument.Older = older
rule_at argument.InlineMax = inline_max
rule_at argument.InlineLonger = inline_max
rule_at argument.Keep = keep
rule_at argument.Steps = steps
rule_at argument.Image = word (codes "image")
rule_at argument.Other = word (codes "other")
rule_at argument.Source = word (codes "source")
rule_at argument.FromBlock = from_block
rule_at argument.Flash = word (codes "flash")
rule_at argument.Dir = word (codes "dir")
rule_at argument.NewDir = word (codes "dir")
rule_at argument.Path = word (codes "path")
rule_at argument.SyncedPath = path_or_root
rule_at argument.ListedPath = path_or_root
rule_at argument.ExtractedPath = path_or_root
rule_at argument.SyncedDir = word (codes "dir")
rule_at argument.Contents = contents
rule_at argument.Script = script
rule_at argument.From = word (codes "from")
rule_at argument.To = word (codes "to")
rule_at argument.Kind = word (codes "kind")
rule_at argument.Value = word (codes "hex")
rule_at argument.Faults = faults

-- a word that needn't be there
abbrev pub spare_word : Text → Rule
spare_word id = record (new_rule id) { value_names = 1 }

-- an option that is a whole number within these bounds
abbrev pub number_within : Text → ℤ → ℤ → Rule
number_within id least most = record (option id) { parser = Some (Signed least most) }

-- an option that is a block size
abbrev pub block_option : Text → Rule
block_option id = record block { id = id }

-- what is said in this form
abbrev pub form_rule : Form → Text → Rule
form_rule (form.Word name) id = word id
form_rule (form.SpareWord name) id = spare_word id
form_rule (form.SpareWords name most) id = spare_words id most
form_rule (form.SpareNumber name least most) id = record (spare_word id) { parser = Some (Signed least most) }
form_rule (form.Option name long) id = record (option id) { long = Some long.now }
form_rule (form.OptionOr name default) id = record (option id) { defaults = default.now ∷ [] }
form_rule (form.Number name least most) id = number_within id least most
form_rule (form.NumberOr name least most default) id = record (number_within id least most) { defaults = default.now ∷ [] }
form_rule form.Block id = block_option id
form_rule (form.BlockNumber least most) id = record (block_option id) { parser = Some (Signed least most) }
form_rule form.Flag id = flag id
form_rule (form.FlagOr letter) id = flag_or id letter

-- what a row of the arguments stands for
abbrev pub row_rule : ArgumentRow → Rule
row_rule row = form_rule row.form row.id.now

-- a command of this name, with what it takes, in this order
abbrev pub command : Text → List Rule → App
command name rules = fold with_rule (new_app name) rules

-- what a row of the program's program_commands stands for
abbrev pub shape_at : CommandRow → Shape
shape_at row = (command row.name.now (map rule_at row.arguments.now)).top

-- the program, before its program_commands
abbrev pub program : App
program = record { top = record (command (codes "lfsed") []).top { has_version = true; subcommand_required = true }; subs = [] }

-- a command that makes an image: it takes the block size, the image's file name, these words, the limits, and whether a file is replaced
abbrev pub making_command : Text → List Rule → Shape
making_command name rules =
    (command name (new_block ∷ word (codes "image") ∷ rules ++ name_max ∷ file_max ∷ attr_max ∷ is_new ∷ [])).top

-- a command that reads one, or moves along its history: it takes the block size, the image's file name, these words, and whether the state
-- before commits of a later disk version is taken
abbrev pub reading : Text → List Rule → Shape
reading name rules = (command name (block ∷ word (codes "image") ∷ rules ++ older ∷ [])).top

-- a command that makes an image of another one: it takes the block size and the file name of each, how many blocks there are, the limits,
-- whether a file is replaced, and how the other image is read
abbrev pub repack : Shape
repack =
    (command (codes "repack") (
    new_block ∷ word (codes "image") ∷ word (codes "source") ∷ from_block ∷ count ∷ size ∷ flag (codes "least")
    ∷ inline_max ∷ name_max_or_source ∷ file_max_or_source ∷ attr_max_or_source ∷ is_new ∷ device ∷ offset ∷ older ∷ []
    )).top

-- a command that shows what an image holds, which may be read as a device does, and may begin at a place of its file
abbrev pub asking : Text → List Rule → Shape
asking name rules = reading name (rules ++ device ∷ offset ∷ [])

-- a command that changes the image: it takes the block size, the image's file name, these words, and how much of the past it keeps; no older
-- state is taken for the image, since what it writes would drop what a device wrote
abbrev pub changing : Text → List Rule → Shape
changing name rules = (command name (block ∷ word (codes "image") ∷ rules ++ keep ∷ [])).top

-- the command that takes over an image that a device wrote: it takes the block size, the image's file name, whether a journal that has changes
-- is replaced, and whether the answer is printed as JSON; what it writes begins a new history, so it takes neither how much of the past is
-- kept nor an older state
abbrev pub adopt : Shape
adopt = (command (codes "adopt") (block ∷ word (codes "image") ∷ replace ∷ json ∷ [])).top

-- it has one of these names
abbrev pub is_change : Text → Bool
is_change name =
    bytes_eq name (codes "mkdir") || bytes_eq name (codes "put") || bytes_eq name (codes "rm") || bytes_eq name (codes "mv")
    || bytes_eq name (codes "setattr") || bytes_eq name (codes "rmattr") || bytes_eq name (codes "grow")
    || bytes_eq name (codes "batch") || bytes_eq name (codes "sync")

-- a command of this name takes no image: it looks for images, or explains
abbrev pub TakesNoImage : Text → Type 0
TakesNoImage name = (name ≡ codes "find") ⊎ (name ≡ codes "explain")

-- the program's program_commands
abbrev pub program_commands : List Shape
program_commands =
    making_command (codes "format") (count ∷ size ∷ [])
    ∷ making_command (codes "pack") (word (codes "dir") ∷ count ∷ size ∷ flag (codes "least") ∷ inline_max ∷ [])
    ∷ repack
    ∷ (command (codes "find") (word (codes "flash") ∷ device ∷ json ∷ [])).top
    ∷ asking (codes "extract") (word (codes "dir") ∷ path_or_root ∷ [])
    ∷ asking (codes "salvage") (word (codes "dir") ∷ [])
    ∷ asking (codes "check") (inline_max ∷ json ∷ [])
    ∷ asking (codes "ls") (path_or_root ∷ digests ∷ json ∷ [])
    ∷ asking (codes "blocks") (sum ∷ json ∷ [])
    ∷ asking (codes "cat") (word (codes "path") ∷ [])
    ∷ asking (codes "diff") (word (codes "other") ∷ quiet ∷ json ∷ [])
    ∷ reading (codes "log") (json ∷ [])
    ∷ changing (codes "mkdir") (word (codes "path") ∷ parents ∷ [])
    ∷ changing (codes "put") (word (codes "path") ∷ contents ∷ parents ∷ inline_max ∷ [])
    ∷ changing (codes "rm") (word (codes "path") ∷ recursive ∷ [])
    ∷ changing (codes "mv") (word (codes "from") ∷ word (codes "to") ∷ [])
    ∷ changing (codes "setattr") (word (codes "path") ∷ word (codes "kind") ∷ word (codes "hex") ∷ [])
    ∷ changing (codes "rmattr") (word (codes "path") ∷ word (codes "kind") ∷ [])
    ∷ changing (codes "grow") (new_count ∷ size ∷ [])
    ∷ changing (codes "sync") (word (codes "dir") ∷ path_or_root ∷ inline_max ∷ [])
    ∷ reading (codes "undo") (steps ∷ [])
    ∷ reading (codes "redo") (steps ∷ [])
    ∷ reading (codes "forget") []
    ∷ adopt
    ∷ changing (codes "batch") (script ∷ one ∷ inline_max ∷ [])
    ∷ (command (codes "explain") (faults ∷ json ∷ [])).top
    ∷ []

-- the program with its program_commands
abbrev pub grammar : App
grammar = fold with_subcommand program program_commands

-- an argument has a first text among the rows, which is read as the argument says, and passes what it takes
pub record IsSaid (rule : Rule) (rows : List Row) : Type 0 where
  pub text : Text
  pub first : first_of rule.id rows ≡ Some text
  pub one : one_of rule.id rows ≡ Some (read_as (reading_by rule) text)
  pub passes : value_passes rule text ≡ true

-- an argument that is a number of 32 bits
abbrev pub IsNumber : Rule → Type 0
IsNumber rule = (least : ℕ) × (most : ℕ) × (rule.parser ≡ Some (Signed (pos least) (pos most))) × (most < 2 ^ 32)

-- an argument must be said, or has a value where it isn't
abbrev pub is_wanted : Rule → Bool
is_wanted rule = rule.required || not (is_empty rule.defaults)

-- an argument is said, or it needn't be, and isn't
abbrev pub IsSaidOrNeedNot : Rule → List Row → Type 0
IsSaidOrNeedNot rule rows =
    IsSaid rule rows ⊎ ((is_wanted rule ≡ false) × (first_of rule.id rows ≡ None) × (one_of rule.id rows ≡ None))

-- a command of the grammar is named, and all is said that it takes and that must be said
pub record NamesCommand (named : Option (Text × List Row)) : Type 0 where
  pub command : Shape
  pub rows : List Row
  pub is : named ≡ Some (command.name, rows)
  pub here : Contains program_commands command
  pub said : All (λ rule. IsSaidOrNeedNot rule rows) command.rules

-- the grammar takes the words: it finds no fault with them
abbrev pub IsTaken : List Text → Type 0
IsTaken words = fault_of grammar words ≡ []

-- these are the matches of the words, which the grammar takes: they name a command, with all that it takes
pub record IsMatched (words : List Text) (m : ArgMatches) : Type 0 where
  pub taken : IsTaken words
  pub named : subcommand_rows_of m ≡ subcommand_of grammar words
  pub says : NamesCommand (subcommand_rows_of m)
