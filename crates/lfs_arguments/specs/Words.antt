-- What the words of a command line ask for (own).
use Rattle.std.specs.Prelude.{ℕ, ◌<◌, ◌^◌, Bool, true, false, ◌≡◌, ◌≢◌, ◌⊎◌, ◌||◌, ⊤, List, [], ◌∷◌, Option, None, Some, codes, if◌then◌else◌, is_some, map}
use Rattle.std.specs.Prelude.{option_map, ◌&&◌}
use Rattle.std.specs.Borrow.{Bor}
use Rattle.std.specs.List.{list_any}
use Rattle.std.specs.Option.{option_map_or, unwrap_or}
use Rattle.std.specs.Str.{bytes_eq}
use Rattle.std.specs.Str.Parse.{digits_value, without_leading_plus}
use Rattle.clap.specs.Words.{Row, Rule, Text, all_of, first_of, one_of}
use Rattle.lfs_grammar.specs.Grammar.{IsSaid, TakesNoImage, attr_max_or_source, file_max_or_source, inline_max, keep, name_max_or_source}
use Rattle.lfs_command.specs.declared.command.Command.{Command}
use Rattle.lfs_command.specs.declared.command.Command.TheVariants.{Mkdir, Put, Rm, Mv, SetAttr, RmAttr, Grow}
use Rattle.lfs_fs.specs.declared.limits.Limits.{Limits}
use Rattle.lfs_fs.specs.Limits.{most_held}
use Rattle.lfs_history.specs.declared.moves.Move.TheVariants as move
use Rattle.lfs_history.specs.declared.moves.Move.TheVariants.{Do, Together, Undo, Redo}
use Rattle.lfs_history.specs.declared.source.Source.{Source}
use Rattle.lfs_history.specs.declared.source.Source.TheVariants.{Input, File, Said}
use Rattle.lfs_request.specs.declared.extent.Extent.{Extent}
use Rattle.lfs_request.specs.declared.extent.Extent.TheVariants.{Count, Least}
use Rattle.lfs_request.specs.declared.manner.Manner.{Manner}
use Rattle.lfs_request.specs.declared.request.Request.{Request}
use Rattle.lfs_request.specs.declared.said_limits.SaidLimits.{SaidLimits}
use Rattle.lfs_request.specs.declared.source_image.SourceImage.{SourceImage}
use Rattle.lfs_request.specs.declared.view.View.{View}
use Rattle.lfs_request.specs.declared.operation.Operation.{Operation}
use Rattle.lfs_request.specs.declared.operation.Operation.TheVariants as operation
use Rattle.lfs_request.specs.declared.operation.Operation.TheVariants.{Format, Pack, Repack, Extract, Salvage, Ask, Change, Tree, Batch}
use Rattle.lfs_request.specs.declared.tree_change.TreeChange.{TreeChange}
use Rattle.lfs_request.specs.declared.tree_change.TreeChange.TheVariants as tree
use Rattle.lfs_json.specs.declared.form.Form.{Form}
use Rattle.lfs_json.specs.declared.form.Form.TheVariants as form
use Rattle.lfs_request.specs.declared.query.Query.{Query}
use Rattle.lfs_request.specs.declared.query.Query.TheVariants.{Check, Ls, Blocks, Cat, Diff, Log}
use Rattle.lfs_texts.specs.Digits.{SpellsByte, SpellsBytes, SpellsNoByte, SpellsNoBytes}
use Rattle.lfs_texts.specs.Sizes.{IsSizeFault, SaysBlock, SaysBlocks, SaysBytes, SaysNoBlock, SaysNoBytes}
use Rattle.lfs_texts.specs.declared.reason.Reason.TheVariants.{BadKind, BadValue}
use Rattle.lfs_arguments.specs.declared.auto_file.AutoFile.{AutoFile}
use Rattle.lfs_arguments.specs.declared.auto_sizes.AutoSizes.{AutoSizes}
use Rattle.lfs_arguments.specs.declared.usage_error.UsageError.{UsageError}
use Rattle.lfs_arguments.specs.declared.usage_error.UsageError.TheVariants.{Block, NoCount, TwoCounts, Size, Offset, Hex}

-- an option's text
abbrev pub HasText : List Row → Text → Text → Type 0
HasText rows id text = first_of id rows ≡ Some text

-- the texts of an argument that takes several, where any are said
abbrev pub HasTexts : List Row → Text → Option (Bor (List (Bor Text))) → Type 0
HasTexts rows id texts = option_map (λ said. map (λ text. text.now) said.now) texts ≡ all_of id rows

-- an option's number, in decimal digits
abbrev pub HasNumber : List Row → Text → ℕ → Type 0
HasNumber rows id number =
    (digits : Text) × (one_of id rows ≡ Some digits) × (number ≡ digits_value 10 (without_leading_plus digits))

-- an option has some text, or none
abbrev pub HasSome : List Row → Text → Type 0
HasSome rows id = (text : Text) × HasText rows id text

abbrev pub HasNoText : List Row → Text → Type 0
HasNoText rows id = first_of id rows ≡ None

-- an option without a value is said
abbrev pub is_flagged : Text → List Row → Bool
is_flagged id rows = option_map_or (λ text. bytes_eq text (codes "true")) (first_of id rows) false

-- a number, where an argument is said that is one
abbrev pub HasNumberIfSaid : List Row → Rule → Option ℕ → Type 0
HasNumberIfSaid rows rule (Some number) = HasNumber rows rule.id number
HasNumberIfSaid rows rule None = IsSaid rule rows → ⊥

-- the size of a block that an option says, where `auto` stands for this one
abbrev pub HasBlock : List Row → Text → ℕ → ℕ → Type 0
HasBlock rows option stated size = (text : Text) × HasText rows option text × SaysBlock text stated size

-- the option that says the size of another image's blocks: `--from-block` where it has a text, else `--block`
abbrev pub other_block : List Row → Text
other_block rows = if is_some (first_of (codes "from-block") rows) then codes "from-block" else codes "block"

-- the size of a block of another image, where `auto` stands for this one
abbrev pub HasOtherBlock : List Row → ℕ → ℕ → Type 0
HasOtherBlock rows stated size = HasBlock rows (other_block rows) stated size

-- how many blocks of this size are said: as a number, or as the size of the image in its place
abbrev pub SaysCount : List Row → ℕ → ℕ → Type 0
SaysCount rows block count =
    (HasNumber rows (codes "count") count × HasNoText rows (codes "size"))
    ⊎ (HasNoText rows (codes "count") × ((text : Text) × HasText rows (codes "size") text × SaysBlocks text block count))

-- the same of a packed image, which may get the least number in place of either
abbrev pub SaysExtent : List Row → ℕ → Extent → Type 0
SaysExtent rows block (Count count) = (is_flagged (codes "least") rows ≡ false) × SaysCount rows block count
SaysExtent rows block Least =
    (is_flagged (codes "least") rows ≡ true) × HasNoText rows (codes "count") × HasNoText rows (codes "size")

-- it is said in some way
abbrev pub is_extent_said : List Row → Bool
is_extent_said rows =
    is_flagged (codes "least") rows || is_some (first_of (codes "count") rows) || is_some (first_of (codes "size") rows)

-- the same of an image that is made of another one, where it needn't be said
abbrev pub SaysExtentIfSaid : List Row → ℕ → Option Extent → Type 0
SaysExtentIfSaid rows block (Some extent) = SaysExtent rows block extent
SaysExtentIfSaid rows block None = is_extent_said rows ≡ false

-- the limits of a new image
abbrev pub SaysNewLimits : List Row → Limits → Type 0
SaysNewLimits rows limits =
    HasNumber rows (codes "name-max") limits.name
    × HasNumber rows (codes "file-max") limits.file
    × HasNumber rows (codes "attr-max") limits.attribute

-- those of an image that is made of another one, each where it is said
abbrev pub SaysLimitsIfSaid : List Row → SaidLimits → Type 0
SaysLimitsIfSaid rows limits =
    HasNumberIfSaid rows name_max_or_source limits.name
    × HasNumberIfSaid rows file_max_or_source limits.file
    × HasNumberIfSaid rows attr_max_or_source limits.attribute

-- where in its file an image begins, in bytes, as an option says it
abbrev pub SaysPlace : List Row → ℕ → Type 0
SaysPlace rows place = (text : Text) × HasText rows (codes "offset") text × SaysBytes text place

-- the same, where it is said
abbrev pub SaysPlaceIfSaid : List Row → Option ℕ → Type 0
SaysPlaceIfSaid rows (Some place) = SaysPlace rows place
SaysPlaceIfSaid rows None = HasNoText rows (codes "offset")

-- how an image is looked at
abbrev pub IsView : View → List Row → Type 0
IsView view rows = (view.by_device ≡ is_flagged (codes "device") rows) × SaysPlaceIfSaid rows view.offset

-- how an image is read
abbrev pub IsManner : Manner → List Row → Type 0
IsManner manner rows = (manner.takes_older ≡ is_flagged (codes "older") rows) × IsView manner.view rows

-- the image that a new one is made of, which has blocks of this size
abbrev pub IsSource : SourceImage → List Row → ℕ → Type 0
IsSource source rows other = HasText rows (codes "source") source.file.now × (source.size ≡ other) × IsManner source.manner rows

-- where the contents of a file that is put come from: a file of the host, or standard input where none is said
abbrev pub HasContents : List Row → Source → Type 0
HasContents rows (File name) = HasText rows (codes "contents") name.now
HasContents rows Input = HasNoText rows (codes "contents")
HasContents rows (Said bytes) = ⊥

-- the greatest length of a file that stands in its entry: that which is given, or the most that an entry holds
abbrev pub IsMostSaid : ℕ → List Row → Type 0
IsMostSaid most rows = (number : Option ℕ) × HasNumberIfSaid rows inline_max number × (most ≡ unwrap_or number most_held)

-- the byte, or the bytes, whose hexadecimal digits an option's text is
abbrev pub HasByte : List Row → Text → ℕ → Type 0
HasByte rows id byte = (digits : Text) × HasText rows id digits × SpellsByte digits byte

abbrev pub HasBytes : List Row → Text → List ℕ → Type 0
HasBytes rows id bytes = (digits : Text) × HasText rows id digits × SpellsBytes digits bytes

-- the command that a name and its options say on an image of this block size
abbrev pub IsCommand : Command (Bor (List ℕ)) Source → Text → List Row → ℕ → Type 0
IsCommand (Mkdir path) name rows block = (name ≡ codes "mkdir") × HasText rows (codes "path") path.now
IsCommand (Put path source most) name rows block =
    (name ≡ codes "put") × HasText rows (codes "path") path.now × HasContents rows source × IsMostSaid most rows
IsCommand (Rm path) name rows block = (name ≡ codes "rm") × HasText rows (codes "path") path.now
IsCommand (Mv from to) name rows block =
    (name ≡ codes "mv") × HasText rows (codes "from") from.now × HasText rows (codes "to") to.now
IsCommand (SetAttr path kind (Said value)) name rows block =
    (name ≡ codes "setattr")
    × HasText rows (codes "path") path.now
    × HasByte rows (codes "kind") kind
    × HasBytes rows (codes "hex") value.items
IsCommand (RmAttr path kind) name rows block =
    (name ≡ codes "rmattr") × HasText rows (codes "path") path.now × HasByte rows (codes "kind") kind
IsCommand (Grow count) name rows block = (name ≡ codes "grow") × SaysCount rows block count
IsCommand _ name rows block = ⊥

-- a command changes a whole tree: it says so, or always does
abbrev pub is_of_tree : Text → List Row → Bool
is_of_tree name rows =
    bytes_eq name (codes "sync")
    || (bytes_eq name (codes "rm") && is_flagged (codes "recursive") rows)
    || ((bytes_eq name (codes "mkdir") || bytes_eq name (codes "put")) && is_flagged (codes "parents") rows)

-- the path that an option's text is, or that of the root where none is said
abbrev pub HasPathOrRoot : List Row → Text → Type 0
HasPathOrRoot rows path = HasText rows (codes "path") path ⊎ (HasNoText rows (codes "path") × (path ≡ codes "/"))

-- the change of a whole tree that a name and its options say
abbrev pub IsTreeChange : TreeChange Source (Bor (List ℕ)) → Text → List Row → Type 0
IsTreeChange (tree.Remove path) name rows = (name ≡ codes "rm") × HasText rows (codes "path") path.now
IsTreeChange (tree.Make path) name rows = (name ≡ codes "mkdir") × HasText rows (codes "path") path.now
IsTreeChange (tree.Put path source most) name rows =
    (name ≡ codes "put") × HasText rows (codes "path") path.now × HasContents rows source × IsMostSaid most rows
IsTreeChange (tree.Sync path dir most) name rows =
    (name ≡ codes "sync") × HasPathOrRoot rows path.now × HasText rows (codes "dir") dir.now × IsMostSaid most rows

-- how many images of the past are kept behind a command: as many as are said, or all where no number is
abbrev pub IsKeepSaid : Option ℕ → List Row → Type 0
IsKeepSaid number rows = HasNumberIfSaid rows keep number

-- the query that a name and its options say, where another image has blocks of this size
abbrev pub IsQuery : Query (Bor (List ℕ)) → Text → List Row → ℕ → Type 0
IsQuery (Check version most) name rows other = (name ≡ codes "check") × HasNumberIfSaid rows inline_max most
IsQuery (Ls path digests) name rows other =
    (name ≡ codes "ls") × HasPathOrRoot rows path.now × (digests ≡ is_flagged (codes "sha256") rows)
IsQuery (Blocks sums) name rows other = (name ≡ codes "blocks") × (sums ≡ is_flagged (codes "sum") rows)
IsQuery (Cat path) name rows other = (name ≡ codes "cat") × HasText rows (codes "path") path.now
IsQuery (Diff name_of_other size quiet) name rows other =
    (name ≡ codes "diff") × HasText rows (codes "other") name_of_other.now × (size ≡ other) × (quiet ≡ is_flagged (codes "quiet") rows)
IsQuery Log name rows other = name ≡ codes "log"

-- the form of what is answered
abbrev pub form_said : List Row → Form
form_said rows = if is_flagged (codes "json") rows then form.Json else form.Text

-- the operation that a name and its options ask for on an image of this block size, where another image has blocks of the second one
abbrev pub IsOperation : Operation → Text → List Row → ℕ → ℕ → Type 0
IsOperation (Format count limits) name rows block other = (name ≡ codes "format") × SaysCount rows block count × SaysNewLimits rows limits
IsOperation (Pack extent limits dir most) name rows block other =
    (name ≡ codes "pack") × SaysExtent rows block extent × SaysNewLimits rows limits × HasText rows (codes "dir") dir.now × IsMostSaid most rows
IsOperation (Repack source extent limits most) name rows block other =
    (name ≡ codes "repack") × IsSource source rows other × SaysExtentIfSaid rows block extent × SaysLimitsIfSaid rows limits
    × IsMostSaid most rows
IsOperation (Extract dir path view) name rows block other =
    (name ≡ codes "extract") × HasText rows (codes "dir") dir.now × HasPathOrRoot rows path.now × IsView view rows
IsOperation (Salvage dir view) name rows block other = (name ≡ codes "salvage") × HasText rows (codes "dir") dir.now × IsView view rows
IsOperation (Ask query said view) name rows block other = IsQuery query name rows other × (said ≡ form_said rows) × IsView view rows
IsOperation operation.Forget name rows block other = name ≡ codes "forget"
IsOperation (operation.Adopt said replaces) name rows block other =
    (name ≡ codes "adopt") × (said ≡ form_said rows) × (replaces ≡ is_flagged (codes "replace") rows)
IsOperation (Change (Do command kept)) name rows block other =
    (is_of_tree name rows ≡ false) × IsCommand command name rows block × IsKeepSaid kept rows
IsOperation (Tree change kept) name rows block other = (is_of_tree name rows ≡ true) × IsTreeChange change name rows × IsKeepSaid kept rows
IsOperation (Change (Undo steps)) name rows block other = (name ≡ codes "undo") × HasNumber rows (codes "steps") steps
IsOperation (Change (Redo steps)) name rows block other = (name ≡ codes "redo") × HasNumber rows (codes "steps") steps
IsOperation (Change move.Forget) name rows block other = ⊥
IsOperation (Change (Together commands kept)) name rows block other = ⊥
IsOperation (Batch file terms one) name rows block other =
    (name ≡ codes "batch") × (option_map (λ f. f.now) file ≡ first_of (codes "script") rows) × IsKeepSaid terms.keep rows
    × IsMostSaid terms.most rows × (one ≡ is_flagged (codes "one") rows)

-- the request that a command and its options ask for, where `auto` stands for these block sizes
abbrev pub IsRequest : Request → Text → List Row → AutoSizes → Type 0
IsRequest request name rows stated =
    ((other : ℕ) × HasOtherBlock rows stated.other other × IsOperation request.operation name rows request.size other)
    × HasBlock rows (codes "block") stated.image request.size
    × HasText rows (codes "image") request.image.now
    × (request.is_new ≡ is_flagged (codes "new") rows)
    × (request.takes_older ≡ is_flagged (codes "older") rows)

-- what is asked for, by the command that is named with its options, where `auto` stands for these block sizes
abbrev pub AsksFor : Option (Text × List Row) → AutoSizes → Request → Type 0
AsksFor named stated request =
    (name : Text) × (rows : List Row) × (named ≡ Some (name, rows)) × IsRequest request name rows stated

-- a command is named that takes no image
abbrev pub NamesNoImage : Option (Text × List Row) → Type 0
NamesNoImage named = (name : Text) × (rows : List Row) × (named ≡ Some (name, rows)) × TakesNoImage name

-- images are looked for in a file
abbrev pub NamesFind : Option (Text × List Row) → Type 0
NamesFind named = (rows : List Row) × (named ≡ Some (codes "find", rows))

-- in the file of this name
abbrev pub LooksIn : Option (Text × List Row) → Text → Type 0
LooksIn named flash = (rows : List Row) × (named ≡ Some (codes "find", rows)) × HasText rows (codes "flash") flash

-- the form in which a command that is named prints
abbrev pub form_asked : Option (Text × List Row) → Form
form_asked named = option_map_or (λ p. form_said p.1) named form.Text

-- it is asked what faults mean
abbrev pub NamesExplain : Option (Text × List Row) → Type 0
NamesExplain named = (rows : List Row) × (named ≡ Some (codes "explain", rows))

-- it is asked what these faults mean, or what all of them do where none is said
abbrev pub Explains : Option (Text × List Row) → Option (Bor (List (Bor Text))) → Type 0
Explains named faults =
    (rows : List Row) × (named ≡ Some (codes "explain", rows)) × HasTexts rows (codes "fault") faults

-- a command on an image's tree, or on its length
abbrev pub is_command : Text → Bool
is_command name =
    list_any (λ command. bytes_eq command name)
    (codes "mkdir" ∷ codes "put" ∷ codes "rm" ∷ codes "mv" ∷ codes "setattr" ∷ codes "rmattr" ∷ codes "grow" ∷ [])

-- one of these, or one that takes no image
abbrev pub is_other : Text → Bool
is_other name = is_command name || bytes_eq (codes "sync") name || bytes_eq (codes "find") name || bytes_eq (codes "explain") name

-- a command that asks something of an image
abbrev pub is_question : Text → Bool
is_question name =
    list_any (λ other. bytes_eq other name) (codes "check" ∷ codes "ls" ∷ codes "blocks" ∷ codes "cat" ∷ codes "diff" ∷ codes "log" ∷ [])

-- no name of a command on a tree that says neither an attribute nor a number
abbrev pub IsNoTreeCommand : Text → Type 0
IsNoTreeCommand name = (name ≢ codes "mkdir") × (name ≢ codes "put") × (name ≢ codes "rm") × (name ≢ codes "mv")

-- none of a command that reads an image as it is looked at
abbrev pub IsNoViewing : Text → Type 0
IsNoViewing name = (name ≢ codes "extract") × (name ≢ codes "salvage") × (is_question name ≡ false)

-- nor of one that has to do with the changes of the past, that takes an image over, or that takes a script
abbrev pub IsNoPast : Text → Type 0
IsNoPast name =
    (name ≢ codes "undo") × (name ≢ codes "redo") × (name ≢ codes "forget") × (name ≢ codes "adopt") × (name ≢ codes "batch")
    × IsNoViewing name

-- `auto` is said for the block size by an option, and this file is named by an argument
abbrev pub SaysAuto : Text → Text → Option (Text × List Row) → Text → Type 0
SaysAuto option id named file =
    (name : Text) × (rows : List Row) × (named ≡ Some (name, rows)) × HasText rows option (codes "auto") × HasText rows id file

-- a place in its file is said for the image
abbrev pub NamesPlace : Option (Text × List Row) → ℕ → Type 0
NamesPlace named place = (name : Text) × (rows : List Row) × (named ≡ Some (name, rows)) × SaysPlace rows place

-- the image begins there, or at the beginning of its file where none is said
abbrev pub BeginsAt : Option (Text × List Row) → ℕ → Type 0
BeginsAt named place = NamesPlace named place ⊎ (((other : ℕ) → NamesPlace named other → other < 2 ^ 64 → ⊥) × (place ≡ 0))

-- `auto` is said for the block size of the image
abbrev pub SaysAutoImage : Option (Text × List Row) → AutoFile → Type 0
SaysAutoImage named file = SaysAuto (codes "block") (codes "image") named file.name.now × BeginsAt named file.place

-- the same of the image that it is made of
abbrev pub SaysAutoSource : Option (Text × List Row) → AutoFile → Type 0
SaysAutoSource named file = SaysAuto (codes "from-block") (codes "source") named file.name.now × BeginsAt named file.place

-- the same of that, or of the image that it is compared with, which is all of its file
abbrev pub SaysAutoOther : Option (Text × List Row) → AutoFile → Type 0
SaysAutoOther named file =
    (SaysAuto (codes "block") (codes "other") named file.name.now × (file.place ≡ 0)) ⊎ SaysAutoSource named file

-- why there is no block size: the text of the option that says it is no size
abbrev pub IsBlockUsageError : UsageError → List Row → Text → ℕ → Type 0
IsBlockUsageError (Block option text) rows said stated = (option.now ≡ said) × HasText rows said text.now × SaysNoBlock text.now stated
IsBlockUsageError _ rows said stated = ⊥

-- why there is no number of blocks of this size: it is said in no way, in two ways, or the size of the image says none
abbrev pub IsCountUsageError : UsageError → List Row → ℕ → Type 0
IsCountUsageError (NoCount ways) rows block = HasNoText rows (codes "count") × HasNoText rows (codes "size")
IsCountUsageError (TwoCounts ways one other) rows block = HasSome rows (codes "count") × HasSome rows (codes "size")
IsCountUsageError (Size text fault) rows block =
    HasNoText rows (codes "count") × HasText rows (codes "size") text.now × IsSizeFault fault text.now block
IsCountUsageError _ rows block = ⊥

-- two ways are said
abbrev pub IsTwice : UsageError → Type 0
IsTwice (TwoCounts ways one other) = ⊤
IsTwice _ = ⊥

-- the same of a packed image, where two ways are said too where one is said beside the least number
abbrev pub IsExtentUsageError : UsageError → List Row → ℕ → Type 0
IsExtentUsageError usage_error rows block =
    ((is_flagged (codes "least") rows ≡ false) × IsCountUsageError usage_error rows block)
    ⊎ ((is_flagged (codes "least") rows ≡ true) × IsTwice usage_error × (HasSome rows (codes "count") ⊎ HasSome rows (codes "size")))

-- why a command says no number of blocks of this size that has to, or that says it in some way
abbrev pub IsSizeUsageError : UsageError → Text → List Row → ℕ → Type 0
IsSizeUsageError usage_error name rows block =
    (((name ≡ codes "format") ⊎ (name ≡ codes "grow")) × IsCountUsageError usage_error rows block)
    ⊎ ((name ≡ codes "pack") × IsExtentUsageError usage_error rows block)
    ⊎ ((name ≡ codes "repack") × (is_extent_said rows ≡ true) × IsExtentUsageError usage_error rows block)

-- the digits of a kind spell nothing
abbrev pub IsKindUsageError : UsageError → Text → List Row → Type 0
IsKindUsageError (Hex command BadKind digits) name rows =
    (command.now ≡ name) × HasText rows (codes "kind") digits.now × SpellsNoByte digits.now
IsKindUsageError _ name rows = ⊥

-- those of a value
abbrev pub IsValueUsageError : UsageError → Text → List Row → Type 0
IsValueUsageError (Hex command BadValue digits) name rows =
    (command.now ≡ name) × HasText rows (codes "hex") digits.now × SpellsNoBytes digits.now
IsValueUsageError _ name rows = ⊥

-- those of either, the value's only where the kind's spell a byte
abbrev pub IsHexUsageError : UsageError → Text → List Row → Type 0
IsHexUsageError usage_error name rows =
    IsKindUsageError usage_error name rows ⊎ (((kind : ℕ) × HasByte rows (codes "kind") kind) × IsValueUsageError usage_error name rows)

-- no place in a file is said: the text of the option that says it is no number of bytes
abbrev pub IsOffsetUsageError : UsageError → List Row → Type 0
IsOffsetUsageError (Offset text) rows = HasText rows (codes "offset") text.now × SaysNoBytes text.now
IsOffsetUsageError _ rows = ⊥

-- why a command says nothing to be done on blocks of this size: no number of them, digits that spell nothing, or no place in a file
abbrev pub IsCommandUsageError : UsageError → Text → List Row → ℕ → Type 0
IsCommandUsageError usage_error name rows block =
    IsSizeUsageError usage_error name rows block
    ⊎ ((name ≡ codes "setattr") × IsHexUsageError usage_error name rows)
    ⊎ ((name ≡ codes "rmattr") × IsKindUsageError usage_error name rows)
    ⊎ IsOffsetUsageError usage_error rows

-- why a command and its options say no request: no block size, of the one image or of the other, or nothing to be done
abbrev pub IsUsageError : UsageError → Text → List Row → AutoSizes → Type 0
IsUsageError usage_error name rows stated =
    IsBlockUsageError usage_error rows (codes "block") stated.image
    ⊎ IsBlockUsageError usage_error rows (other_block rows) stated.other
    ⊎ ((block : ℕ) × HasBlock rows (codes "block") stated.image block × IsCommandUsageError usage_error name rows block)

-- the same of the command that is named with its options
abbrev pub IsMissaid : Option (Text × List Row) → AutoSizes → UsageError → Type 0
IsMissaid named stated usage_error = (name : Text) × (rows : List Row) × (named ≡ Some (name, rows)) × IsUsageError usage_error name rows stated
