-- How the words of a command line end (own).
use Rattle.std.specs.Prelude.{ℕ, ◌≡◌, ◌⊎◌, List, Option, Result, Ok, Err, Some}
use Rattle.std.specs.Borrow.{Bor}
use Rattle.std.specs.Io.KnownBytes.{Appends}
use Rattle.clap.specs.Words.{IsAmong, Row, Text, fault_of, subcommand_of}
use Rattle.clap.specs.declared.error.kind.ErrorKind.{ErrorKind}
use Rattle.clap.specs.declared.error.kind.ErrorKind.TheVariants.{DisplayHelp, DisplayVersion}
use Rattle.lfs_command.specs.declared.refusal.Refusal.TheVariants.{Memory}
use Rattle.lfs_request.specs.declared.fault.Fault.{Fault}
use Rattle.lfs_request.specs.declared.fault.Fault.TheVariants.{CannotWrite, Refused}
use Rattle.lfs_request.specs.Fault.{status_of}
use Rattle.lfs_request.specs.declared.request.Request.{Request}
use Rattle.lfs_arguments.specs.declared.auto_file.AutoFile.{AutoFile}
use Rattle.lfs_arguments.specs.declared.auto_sizes.AutoSizes.{AutoSizes}
use Rattle.lfs_grammar.specs.Grammar.{grammar}
use Rattle.lfs_grammar.specs.Hyphens.{IsRead}
use Rattle.lfs_arguments.specs.Words.{AsksFor, Explains, IsMissaid, LooksIn, SaysAutoImage, SaysAutoOther, form_asked}
use Rattle.lfs_arguments.specs.declared.usage_error.UsageError.{UsageError}
use Rattle.lfs_exchange.specs.Printing.{HasRefusedOutput, IsFlushed, PrintsBeginning}
use Rattle.lfs_open.specs.Finding.{EndsFinding}
use Rattle.lfs_host.specs.Scene.{KeepsAll, KeepsInput, Scene}
use Rattle.lfs_json.specs.declared.form.Form.{Form}
use Rattle.lfs_serve.specs.Program.{EndsRequest}
use Rattle.lfs_open.specs.Stated.{IsStatedSize}
use Rattle.lfsed.specs.JsonWord.{plain_words}

-- the status of a command line that is refused
abbrev pub usage : ℕ
usage = 2

-- the status that a command line ends with
abbrev pub ended_with : Result ℕ Fault → ℕ
ended_with (Ok status) = status
ended_with (Err fault) = status_of (Some fault)

-- the words are neither taken as they are nor with `--` before the first stray one
abbrev pub AreWordsRefused : List Text → Type 0
AreWordsRefused words = (read : List Text) → IsRead words read → ⊥

-- an error is no error: the words call for help, or for the version
abbrev pub CallsForHelp : ErrorKind → Type 0
CallsForHelp kind = (kind ≡ DisplayHelp) ⊎ (kind ≡ DisplayVersion)

-- want of memory ends the run, with nothing changed, made or printed
abbrev pub EndsForMemory : Scene → Scene → ℕ → Type 0
EndsForMemory old new status = KeepsAll old new × (status ≡ status_of (Some (Refused Memory)))

-- the words are refused, with nothing changed, made or printed: what is wrong is told on standard error
abbrev pub EndsUsedWrongly : Scene → Scene → ℕ → Type 0
EndsUsedWrongly old new status = (new ≡ old) × (status ≡ usage)

-- a text is printed and handed on, and nothing else is changed or made; or a beginning of it, if the host refuses the rest
abbrev pub EndsPrinting : Scene → Scene → ℕ → Type 0
EndsPrinting old new status =
    KeepsInput old new
    × ((text : List ℕ)
    × (((status ≡ 0) × IsFlushed new × Appends old.printed new.printed text)
    ⊎ ((status ≡ status_of (Some CannotWrite)) × HasRefusedOutput new × PrintsBeginning old.printed new.printed text)))

-- faults are explained; or a word is none of them; or there is no memory for what is said
abbrev pub EndsExplained : Scene → Scene → ℕ → Type 0
EndsExplained old new status = EndsPrinting old new status ⊎ EndsUsedWrongly old new status ⊎ EndsForMemory old new status

-- how words end that the grammar takes in no way: if their kind of error says that they call for help, it is printed, and otherwise they are
-- refused; or there is no memory for what is said
abbrev pub EndsError : ErrorKind → Scene → Scene → ℕ → Type 0
EndsError kind old new status =
    (¬ CallsForHelp kind × EndsUsedWrongly old new status)
    ⊎ (CallsForHelp kind × EndsPrinting old new status)
    ⊎ EndsForMemory old new status

-- a look at the file of which the words say that its block size stands for `auto`, which changes nothing: so it does; or this size, if they
-- say so of no file
abbrev pub Looks : (AutoFile → Type 0) → ℕ → Scene → Scene → ℕ → Type 0
Looks says none old new size =
    KeepsAll old new
    × (((file : AutoFile) × says file × IsStatedSize old new file.name.now file.place size)
    ⊎ (((file : AutoFile) → ¬ says file) × (size ≡ none)))

-- block sizes stand for `auto`: those of the image, and of the one that it is compared with, or made of, which is the image's if it isn't
-- looked for
abbrev pub AreStated : Option (Text × List Row) → Scene → Scene → AutoSizes → Type 0
AreStated named old new stated =
    (looked : Scene) × Looks (SaysAutoImage named) 0 old looked stated.image
    × Looks (SaysAutoOther named) stated.image looked new stated.other

-- images are looked for in a file, and listed in a form, with the status that tells the fault
abbrev pub EndsFound : Form → Text → Scene → Scene → ℕ → Type 0
EndsFound form flash old new status = (fault : Option Fault) × EndsFinding form flash old new fault × (status ≡ status_of fault)

-- how a command that is named with its options ends: by saying what the faults mean that it asks for; behind a look at the files of the
-- images, as the request that it asks for, or refused where it says none; or for want of memory; or by listing the images of a file. No
-- file is changed but by a request, and nothing is printed of words that are refused
abbrev pub EndsNamed : Option (Text × List Row) → Scene → Scene → ℕ → Type 0
EndsNamed named old new status =
    ((faults : Option (Bor (List (Bor Text)))) × Explains named faults × EndsExplained old new status)
    ⊎ ((stated : AutoSizes) × (looked : Scene) × AreStated named old looked stated
    × (((request : Request) × AsksFor named stated request × EndsRequest request looked new status)
    ⊎ ((usage_error : UsageError) × IsMissaid named stated usage_error × EndsUsedWrongly looked new status)))
    ⊎ EndsForMemory old new status
    ⊎ ((flash : Text) × LooksIn named flash × EndsFound (form_asked named) flash old new status)

-- how refused words end: as an error of one of the kinds that the grammar finds with them
abbrev pub EndsRefused : List Text → Scene → Scene → ℕ → Type 0
EndsRefused words old new status =
    AreWordsRefused words × ((kind : ErrorKind) × IsAmong kind (fault_of grammar words) × EndsError kind old new status)

-- how a command line ends: as its words are read; refused; or for want of memory
abbrev pub EndsWords : List Text → Scene → Scene → ℕ → Type 0
EndsWords words old new status =
    ((read : List Text) × IsRead words read × EndsNamed (subcommand_of grammar read) old new status)
    ⊎ EndsRefused words old new status
    ⊎ EndsForMemory old new status

-- how a command line ends of which a word in front of the command may ask for JSON: as its words do without that
abbrev pub EndsLine : List Text → Scene → Scene → ℕ → Type 0
EndsLine words old new status = EndsWords (plain_words words) old new status
