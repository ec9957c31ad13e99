-- Images that are looked for in a file of a host (own).
use Rattle.std.specs.Prelude.{ℕ, ◌≡◌, ◌≤◌, ◌⊎◌, List, Option, Some, None, length, take}
use Rattle.std.specs.Io.KnownBytes.{Appends}
use Rattle.lfs_command.specs.declared.refusal.Refusal.TheVariants.{Memory}
use Rattle.lfs_exchange.specs.Handing.{IsUnreadBy}
use Rattle.lfs_exchange.specs.Printing.{HasRefusedOutput, IsFlushed, PrintsBeginning}
use Rattle.lfs_host.specs.Files.{ReadsFile}
use Rattle.lfs_host.specs.HostCall.{Reading}
use Rattle.lfs_host.specs.Scene.{KeepsInput, Scene}
use Rattle.lfs_request.specs.declared.fault.Fault.{Fault}
use Rattle.lfs_request.specs.declared.fault.Fault.TheVariants.{CannotWrite, Refused}
use Rattle.lfs_find.specs.Found.{AreFound}
use Rattle.lfs_json.specs.declared.form.Form.{Form}
use Rattle.lfs_open.specs.FoundText.{found_text}
use Rattle.lfs_find.specs.declared.found.Found.{Found}

-- the most bytes of a file that are looked at: as many as a file may have
abbrev pub most_flash : ℕ
most_flash = 9223372036854775807

-- what of a text is printed, by the fault that this ends with: all of it, which is handed on; a beginning, where the host refuses the rest;
-- or one, perhaps all, where memory is wanting
abbrev pub PrintsText : Option Fault → Scene → Scene → List ℕ → Type 0
PrintsText None old new text = Appends old.printed new.printed text × IsFlushed new
PrintsText (Some CannotWrite) old new text = PrintsBeginning old.printed new.printed text × HasRefusedOutput new
PrintsText (Some (Refused refusal)) old new text =
    (refusal ≡ Memory) × ((n : ℕ) × (n ≤ length text) × Appends old.printed new.printed (take n text))
PrintsText _ old new text = ⊥

-- what is found in the bytes of a file is printed in a form, a line each
abbrev pub ListsFound : Form → List ℕ → Scene → Scene → Option Fault → Type 0
ListsFound form bytes old new fault = (found : List Found) × AreFound bytes found × PrintsText fault old new (found_text form found)

-- how looking for images in a file ends, by its fault: it isn't read, or memory is wanting, and nothing is printed; or what is found in its
-- bytes is listed. Nothing else is changed
abbrev pub EndsFinding : Form → List ℕ → Scene → Scene → Option Fault → Type 0
EndsFinding form name old new fault =
    KeepsInput old new
    × (((why : Fault) × (fault ≡ Some why) × IsUnreadBy (Reading name) new why × (new.printed ≡ old.printed))
    ⊎ ((bytes : List ℕ) × ReadsFile old.files name most_flash bytes × ListsFound form bytes old new fault))
