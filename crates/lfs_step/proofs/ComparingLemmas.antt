-- What is answered of two images that are compared.
use Rattle.std.proofs.Common.{◌≡◌, ◌⊎◌, ◌∙◌, ℕ, Bool, List, [], ◌∷◌, ◌++◌, Option, None}
use Rattle.std.proofs.Common.{Some, Result, Ok, Err, true, false, rules, refl, sym, ap, subst, append-nil}
use Rattle.std.specs.Prelude.{IfErr, IfOk}
use Rattle.std.specs.Result.{result_err}
use Rattle.std.specs.Io.KnownBytes.{Appends, Keeps}
use mathlib.Core.Logic.{inl, inr}
use Rattle.lfs_block.specs.Disk.{Disk, IsDisk, image_of}
use Rattle.lfs_block.specs.declared.mount_fault.MountFault.{MountFault}
use Rattle.lfs_fs.specs.Cause.{HasCause}
use Rattle.lfs_fs.specs.Mounted.{MountedValue, IsMountOf}
use Rattle.lfs_command.specs.declared.refusal.Refusal.TheVariants as refusal
use Rattle.lfs_fs.specs.declared.limits.Limits.{Limits}
use Rattle.lfs_json.specs.declared.form.Form.{Form}
use Rattle.lfs_listing.specs.Difference.{difference, is_some_text}
use Rattle.lfs_listing.specs.Unsent.{SendsListing, blames_sink}
use Rattle.lfs_listing.specs.declared.unsent.Unsent.{Unsent}
use Rattle.lfs_listing.specs.declared.unsent.Unsent.TheVariants.{Memory, CannotWrite}
use Rattle.lfs_request.specs.declared.fault.Fault.{Fault}
use Rattle.lfs_request.specs.declared.fault.Fault.TheVariants as fault
use Rattle.lfs_request.specs.declared.other_fault.OtherFault.TheVariants as other
use Rattle.lfs_request.specs.Fault.{blames_output, fault_of_mount}
use Rattle.lfs_block.specs.declared.mount_fault.MountFault.TheVariants.{Memory as No_memory}
use Rattle.lfs_block.proofs.BytesLemmas.{at_bytes}
use Rattle.lfs_step.specs.Comparing.{IsDifference, RefusesCompared, RefusesDifference, SendsCompared, SendsDifference}
use Rattle.lfs_step.specs.Comparing.{end_of, form_of, image_difference, limits_difference, said_text}

-- ---- a difference that was said, or didn't go out as a whole

difference_is : (form : Form) (d e : Disk) (m n : MountedValue) → IsMountOf d m → IsMountOf e n → IsDifference form d e (image_difference form d m e n)
difference_is form d e m n first second = record { first = m; second = n; mounts = (first, second); text_is = refl }

-- the line of the limits in front of what differs between the trees
pub with_limits : (form : Form) (d e : Disk) (m n : MountedValue) (a b : Limits) (line : List ℕ) → a ≡ m.outline.limits → b ≡ n.outline.limits
    → line ≡ limits_difference form a b → line ++ difference form d m.rows e n.rows ≡ image_difference form d m e n
with_limits form d e m n a b line first second is =
    ap (λ (l : List ℕ). l ++ difference form d m.rows e n.rows)
    (is ∙ ap (λ (x : Limits). limits_difference form x b) first ∙ ap (λ (x : Limits). limits_difference form m.outline.limits x) second)

none_there : (text : List ℕ) → false ≡ is_some_text text → text ≡ []
none_there [] is = refl
none_there (byte ∷ bytes) is = absurd (cc)

said_none : (said : Option Form) → said_text said [] ≡ []
said_none None = refl
said_none (Some form) = refl

keeps_none : (old new : Option (List ℕ)) → Appends old new [] → Keeps old new
keeps_none None new sends = tt
keeps_none (Some x) None sends = absurd sends
keeps_none (Some x) (Some y) sends = sends ∙ append-nil x

pub difference_ended : (said : Option Form) (d e : Disk) (m n : MountedValue) → IsMountOf d m → IsMountOf e n → (r : Result Bool Unsent)
    (old new : Option (List ℕ)) → SendsListing (result_err r) old new (said_text said (image_difference (form_of said) d m e n))
    → IfOk r (λ differs. differs ≡ is_some_text (image_difference (form_of said) d m e n)) → SendsDifference said d e (end_of r) old new
difference_ended said d e m n first second (Ok false) old new sends is =
    let none : image_difference (form_of said) d m e n ≡ [] = none_there (image_difference (form_of said) d m e n) is in (
      subst (IsDifference (form_of said) d e) none (difference_is (form_of said) d e m n first second),
      keeps_none old new (subst (λ (text : List ℕ). Appends old new text) (ap (said_text said) none ∙ said_none said) sends),
    )
difference_ended said d e m n first second (Ok true) old new sends is =
    (image_difference (form_of said) d m e n, difference_is (form_of said) d e m n first second, sends)
difference_ended said d e m n first second (Err Memory) old new (k, within, sends) is =
    inr (image_difference (form_of said) d m e n, difference_is (form_of said) d e m n first second, k, within, sends)
difference_ended said d e m n first second (Err CannotWrite) old new sends is =
    (image_difference (form_of said) d m e n, difference_is (form_of said) d e m n first second, sends)

fault_in : Fault → Option Fault → Fault
fault_in other None = other
fault_in other (Some f) = f

pub difference_refused : (said : Option Form) (d e : Disk) (m n : MountedValue) → IsMountOf d m → IsMountOf e n → (r : Result Bool Unsent) (f : Fault)
    → IfOk r (λ differs. differs ≡ is_some_text (image_difference (form_of said) d m e n)) → end_of r ≡ Some f → RefusesDifference (form_of said) d e f
unfolding fault_in
difference_refused said d e m n first second (Ok false) f is ends = absurd (cc)
difference_refused said d e m n first second (Ok true) f is ends =
    subst (RefusesDifference (form_of said) d e) (ap (fault_in f) ends) (image_difference (form_of said) d m e n, difference_is (form_of said) d e m n first second, sym is)
difference_refused said d e m n first second (Err Memory) f is ends = subst (RefusesDifference (form_of said) d e) (ap (fault_in f) ends) refl
difference_refused said d e m n first second (Err CannotWrite) f is ends =
    subst (RefusesDifference (form_of said) d e) (ap (fault_in f) ends) (image_difference (form_of said) d m e n, difference_is (form_of said) d e m n first second)

-- the sink is blamed by what ends
pub ends_blamed : (r : Result Bool Unsent) → blames_sink (result_err r) ≡ blames_output (end_of r)
ends_blamed (Ok false) = refl
ends_blamed (Ok true) = refl
ends_blamed (Err Memory) = refl
ends_blamed (Err CannotWrite) = refl

-- what is refused is what ends
pub refused_as : (r : Result (Unit {0}) Fault) (ends : Option Fault) (P : Fault → Type 0) → result_err r ≡ ends
    → ((f : Fault) → ends ≡ Some f → P f) → IfErr r P
refused_as (Ok done) ends P is each = tt
refused_as (Err f) ends P is each = each f (sym is)

-- ---- the second image

-- ---- nothing goes out

pub same_kept : (o : Option (List ℕ)) → Keeps o o
same_kept None = search rules
same_kept (Some l) = search rules

mount_silent : (said : Option Form) (d e : Disk) (cause : MountFault) (o : Option (List ℕ))
    → SendsDifference said d e (Some (fault_of_mount cause)) o o
mount_silent said d e No_memory o = inl (same_kept o)
mount_silent said d e _ o = same_kept o

-- where the first image doesn't mount
pub first_silent : (said : Option Form) (d e : Disk) (cause : MountFault) (f : Fault) (o : Option (List ℕ)) → f ≡ fault_of_mount cause
    → SendsDifference said d e (Some f) o o
first_silent said d e cause f o is =
    subst (λ (x : Fault). SendsDifference said d e (Some x) o o) (sym is) (mount_silent said d e cause o)

-- where the second doesn't
pub second_silent : (said : Option Form) (d e : Disk) (f : Fault) (o : Option (List ℕ))
    → (f ≡ fault.Refused refusal.Memory) ⊎ ((cause : MountFault) × (f ≡ fault.Other (other.Mount cause)) × HasCause e cause)
    → SendsDifference said d e (Some f) o o
second_silent said d e f o (inl memory) = subst (λ (x : Fault). SendsDifference said d e (Some x) o o) (sym memory) (inl (same_kept o))
second_silent said d e f o (inr (cause, is, has)) = subst (λ (x : Fault). SendsDifference said d e (Some x) o o) (sym is) (same_kept o)

-- ---- bytes

both_refused : (said : Option Form) (d : Disk) (size : ℕ) (others : List ℕ) (f : Fault)
    → IsDisk (image_of size others) × RefusesDifference (form_of said) d (image_of size others) f → RefusesCompared said d size others f
both_refused said d size others (fault.Other (other.Image f)) refuses = absurd refuses.1
both_refused said d size others (fault.Other (other.Mount f)) refuses = refuses
both_refused said d size others (fault.Other other.CannotRead) refuses = refuses
both_refused said d size others f refuses = refuses

pub compared_refused : (said : Option Form) (d e : Disk) (size : ℕ) (others : List ℕ) (f : Fault) → IsDisk e → e.size ≡ size → e.bytes ≡ others
    → RefusesDifference (form_of said) d e f → RefusesCompared said d size others f
compared_refused said d e size others f is sizes same refuses =
    both_refused said d size others f (at_bytes e size others (λ x. IsDisk x × RefusesDifference (form_of said) d x f) is sizes same (is, refuses))

pub compared_sent : (said : Option Form) (d e : Disk) (size : ℕ) (others : List ℕ) (f : Option Fault) (old new : Option (List ℕ)) → IsDisk e
    → e.size ≡ size → e.bytes ≡ others → SendsDifference said d e f old new → SendsCompared said d size others f old new
compared_sent said d e size others f old new is sizes same sends =
    at_bytes e size others (λ x. SendsDifference said d x f old new) is sizes same sends
