-- What is answered to any query of an image and its journal, and why nothing is (own).
use Rattle.std.specs.Prelude.{ℕ, List, Option}
use Rattle.lfs_block.specs.Disk.{Disk, IsDisk, image_of}
use Rattle.lfs_block.specs.ImageFault.{IsNoImage}
use Rattle.lfs_request.specs.declared.fault.Fault.{Fault}
use Rattle.lfs_request.specs.declared.fault.Fault.TheVariants.{Image}
use Rattle.lfs_request.specs.declared.query.Query.TheVariants.{Diff, Log}
use Rattle.lfs_json.specs.declared.form.Form.{Form}
use Rattle.lfs_step.specs.Comparing.{RefusesCompared, SendsCompared, said_form}
use Rattle.lfs_step.specs.Query.{RefusesReport, SendsReport}
use Rattle.lfs_request.specs.Query.{Question}
use Rattle.lfs_step.specs.Recounting.{RefusesRecount, SendsRecount}

-- why nothing, or not all, is said of an image and its journal, in a form
abbrev pub RefusesAsked : Question → Form → Disk → List ℕ → Fault → Type 0
RefusesAsked (Diff other size quiet) form d journal fault = RefusesCompared (said_form quiet form) d size other.items fault
RefusesAsked Log form d journal fault = RefusesRecount form d journal fault
RefusesAsked query form d journal fault = RefusesReport query form d fault

-- what goes out
abbrev pub SendsAsked : Question → Form → Disk → List ℕ → Option Fault → Option (List ℕ) → Option (List ℕ) → Type 0
SendsAsked (Diff other size quiet) form d journal fault old new =
    SendsCompared (said_form quiet form) d size other.items fault old new
SendsAsked Log form d journal fault old new = SendsRecount form d journal fault old new
SendsAsked query form d journal fault old new = SendsReport query form d fault old new

-- why nothing, or not all, is said of bytes: they are no image, or else as for an image
abbrev pub RefusesQuery : Question → Form → ℕ → List ℕ → List ℕ → Fault → Type 0
RefusesQuery query form size image journal (Image fault) = IsNoImage fault size image
RefusesQuery query form size image journal fault =
    IsDisk (image_of size image) × RefusesAsked query form (image_of size image) journal fault
