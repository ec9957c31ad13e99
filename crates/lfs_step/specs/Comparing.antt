-- What is said of two images that are compared, and why nothing is (own).
use Rattle.std.specs.Fmt.{decimal}
use Rattle.std.specs.Prelude.{ℕ, ◌≡◌, ◌⊎◌, ◌≤◌, ◌==◌, ◌&&◌, Bool, true, false, List}
use Rattle.std.specs.Prelude.{[], ◌∷◌, ◌++◌, Option, Some, None, Result, Ok, Err, length, take}
use Rattle.std.specs.Prelude.{codes, if◌then◌else◌}
use Rattle.std.specs.Io.KnownBytes.{Appends, Keeps}
use Rattle.lfs_block.specs.Disk.{Disk, IsDisk, image_of}
use Rattle.lfs_block.specs.ImageFault.{IsNoImage}
use Rattle.lfs_fs.specs.Cause.{HasCause}
use Rattle.lfs_fs.specs.Mounted.{MountedValue, IsMountOf}
use Rattle.lfs_fs.specs.declared.limits.Limits.{Limits}
use Rattle.lfs_command.specs.declared.refusal.Refusal.TheVariants.{Memory}
use Rattle.lfs_json.specs.Line.{line_of}
use Rattle.lfs_json.specs.Summary.{json_of_limits}
use Rattle.lfs_json.specs.declared.form.Form.{Form}
use Rattle.lfs_json.specs.declared.form.Form.TheVariants.{Text, Json}
use Rattle.lfs_listing.specs.Difference.{difference, is_some_text}
use Rattle.lfs_request.specs.declared.fault.Fault.{Fault}
use Rattle.lfs_request.specs.declared.fault.Fault.TheVariants.{Mount, Refused, CannotWrite, Other, Differ}
use Rattle.lfs_request.specs.declared.other_fault.OtherFault.TheVariants as other
use Rattle.lfs_sink.specs.Send.{SendsBeginning}
use Rattle.lfs_listing.specs.declared.unsent.Unsent.{Unsent}
use Rattle.lfs_step.specs.Query.{HasMount, fault_of_unsent}

-- the line of an image's limits, of which some differ
abbrev pub limits_line : Limits → List ℕ
limits_line l =
    codes "~ limits " ++ (decimal l.name ++ (codes " " ++ (decimal l.file ++ (codes " " ++ (decimal l.attribute ++ 10 ∷ [])))))

-- in a form
abbrev pub limits_text : Form → Limits → List ℕ
limits_text Text l = limits_line l
limits_text Json l = line_of (json_of_limits l)

-- the same limits
abbrev pub same_limits : Limits → Limits → Bool
same_limits a b = a.name == b.name && (a.file == b.file && a.attribute == b.attribute)

-- what differs between the limits of two images: nothing, or the line of the second
abbrev pub limits_difference : Form → Limits → Limits → List ℕ
limits_difference form a b = if same_limits a b then [] else limits_text form b

-- what differs between two images that are mounted: their limits, and behind these their trees
abbrev pub image_difference : Form → Disk → MountedValue → Disk → MountedValue → List ℕ
image_difference form d m e n = limits_difference form m.outline.limits n.outline.limits ++ difference form d m.rows e n.rows

-- both images mount, and the text is what differs between them, in a form
pub record IsDifference (form : Form) (d e : Disk) (text : List ℕ) : Type 0 where
  pub first : MountedValue
  pub second : MountedValue
  pub mounts : IsMountOf d first × IsMountOf e second
  pub text_is : text ≡ image_difference form d first e second

-- Why it isn't said of two images that nothing differs: a cause that the first has, or, where that one mounts, the second; want of memory,
-- or standard output; or something differs.
abbrev pub RefusesDifference : Form → Disk → Disk → Fault → Type 0
RefusesDifference form d e (Mount fault) = HasCause d fault
RefusesDifference form d e (Other (other.Mount fault)) = HasMount d × HasCause e fault
RefusesDifference form d e (Refused refusal) = refusal ≡ Memory
RefusesDifference form d e CannotWrite = (text : List ℕ) × IsDifference form d e text
RefusesDifference form d e Differ = (text : List ℕ) × IsDifference form d e text × (is_some_text text ≡ true)
RefusesDifference form d e _ = ⊥

-- how what differs is to go out: in a form, or not at all where only whether it does is asked
abbrev pub said_form : Bool → Form → Option Form
said_form true form = None
said_form false form = Some form

-- the form in which it is known what differs
abbrev pub form_of : Option Form → Form
form_of None = Text
form_of (Some form) = form

-- why that isn't said of an image and of bytes: these are no image, or else as for two images
abbrev pub RefusesCompared : Option Form → Disk → ℕ → List ℕ → Fault → Type 0
RefusesCompared said d size others (Other (other.Image fault)) = IsNoImage fault size others
RefusesCompared said d size others fault =
    IsDisk (image_of size others) × RefusesDifference (form_of said) d (image_of size others) fault

-- what is to go out of what differs: all of it, or nothing
abbrev pub said_text : Option Form → List ℕ → List ℕ
said_text None text = []
said_text (Some form) text = text

-- how it ends that what differs was said, which there is or not
abbrev pub end_of : Result Bool Unsent → Option Fault
end_of (Ok false) = None
end_of (Ok true) = Some Differ
end_of (Err unsent) = Some (fault_of_unsent unsent)

-- nothing has gone out of what differs between two images, or some of it
abbrev pub SendsSomeDifference : Option Form → Disk → Disk → Option (List ℕ) → Option (List ℕ) → Type 0
SendsSomeDifference said d e old new =
    Keeps old new
    ⊎ ((text : List ℕ) × IsDifference (form_of said) d e text × (n : ℕ) × (n ≤ length (said_text said text))
    × Appends old new (take n (said_text said text)))

-- what goes out on two images: nothing where nothing differs, or the whole text; a beginning of it where standard output failed, else
-- nothing; it is written row by row, so some where memory was refused
abbrev pub SendsDifference : Option Form → Disk → Disk → Option Fault → Option (List ℕ) → Option (List ℕ) → Type 0
SendsDifference said d e None old new = IsDifference (form_of said) d e [] × Keeps old new
SendsDifference said d e (Some Differ) old new =
    (text : List ℕ) × IsDifference (form_of said) d e text × Appends old new (said_text said text)
SendsDifference said d e (Some CannotWrite) old new =
    (text : List ℕ) × IsDifference (form_of said) d e text × SendsBeginning old new (said_text said text)
SendsDifference said d e (Some (Refused refusal)) old new = SendsSomeDifference said d e old new
SendsDifference said d e (Some fault) old new = Keeps old new

-- the same on an image and bytes
abbrev pub SendsCompared : Option Form → Disk → ℕ → List ℕ → Option Fault → Option (List ℕ) → Option (List ℕ) → Type 0
SendsCompared said d size others fault old new = SendsDifference said d (image_of size others) fault old new
