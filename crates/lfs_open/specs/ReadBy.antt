-- The bytes of an image's file as they are read (own).
use Rattle.std.specs.Prelude.{ℕ, ◌≡◌, ◌⊎◌, Bool, true, false, List, Option, Some, None, IsSome}
use Rattle.std.specs.Option.{option_map_or}
use Rattle.lfs_command.specs.declared.refusal.Refusal.TheVariants.{Memory}
use Rattle.lfs_lower.specs.Beginning.{begins_with}
use Rattle.lfs_settle.specs.ReadAs.{IsReadAs}
use Rattle.lfs_settle.specs.Within.{IsImageWithin}
use Rattle.lfs_request.specs.Query.{Question}
use Rattle.lfs_request.specs.declared.fault.Fault.{Fault}
use Rattle.lfs_request.specs.declared.fault.Fault.TheVariants.{Refused}
use Rattle.lfs_request.specs.declared.query.Query.TheVariants.{Check, Diff}
use Rattle.lfs_request.specs.declared.view.View.{View}

-- all of them, if the image is all of its file; else the image with which those begin that stand at its place and after it
abbrev pub IsReadFrom : Option ℕ → Bool → ℕ → List ℕ → List ℕ → Type 0
IsReadFrom None by_device size old new = IsReadAs by_device size old new
IsReadFrom (Some place) by_device size old new = IsImageWithin by_device size old new

-- as the image is looked at: also as a device does, if that is asked for
abbrev pub IsReadBy : View → ℕ → List ℕ → List ℕ → Type 0
IsReadBy view size old new = IsReadFrom view.offset view.by_device size old new

-- they aren't read as they are
abbrev pub IsReadAnew : View → Type 0
IsReadAnew view = (view.by_device ≡ true) ⊎ IsSome view.offset

-- memory is wanting for that
abbrev pub WantsMemory : View → Fault → Type 0
WantsMemory view fault = IsReadAnew view × (fault ≡ Refused Memory)

-- the disk version that is told of the image with which bytes begin: if it is read as a device does, the one that it states; else 2.0, since an
-- image of another one doesn't mount
abbrev pub told_version : Bool → ℕ → List ℕ → ℕ
told_version true size bytes = option_map_or (λ stated. stated.version) (begins_with size bytes) 131072
told_version false size bytes = 131072

-- a question, asked of these bytes: a check tells their version, and another image is read as a device does, if that is asked for
abbrev pub IsAskedBy : Bool → ℕ → List ℕ → Question → Question → Type 0
IsAskedBy by_device size image (Check version most) new = new ≡ Check (told_version by_device size image) most
IsAskedBy by_device size image (Diff old other_size quiet) (Diff new new_size is_quiet) =
    (new_size ≡ other_size) × (is_quiet ≡ quiet) × IsReadAs by_device other_size old.items new.items
IsAskedBy by_device size image (Diff old other_size quiet) _ = ⊥
IsAskedBy by_device size image old new = new ≡ old
