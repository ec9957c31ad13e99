-- What is left of an image that is taken over, and what is said of it.
use Rattle.std.proofs.Common.{arith, ◌≡◌, ◌&&◌, ℕ, Bool, true, false, not, List, [], ◌∷◌, Option, Some, None, length, refl, ap, ap₂, sym, ◌∙◌, subst}
use Rattle.std.proofs.lemmas.Bool.{eqb-true}
use Rattle.std.specs.Prelude.{if◌then◌else◌, unwrap_or}
use Rattle.lfs_block.specs.Disk.{Disk, IsDisk, image_of}
use Rattle.lfs_block.specs.Patch.{ChangeSet}
use Rattle.lfs_block.proofs.BytesLemmas.{at_bytes, image_of_disk}
use Rattle.lfs_journal.specs.Book.{book_of}
use Rattle.lfs_history.specs.History.{fresh_history}
use Rattle.lfs_history.specs.Opening.{journal_of}
use Rattle.lfs_sink.specs.Send.{Sends, SendsBeginning}
use Rattle.lfs_adopt.specs.Adopted.{IsAdoptedImage}
use Rattle.lfs_adopt.specs.Changed.{changed_blocks}
use Rattle.lfs_json.specs.declared.form.Form.{Form}
use Rattle.lfs_command.specs.declared.refusal.Refusal.TheVariants.{Memory}
use Rattle.lfs_request.specs.declared.fault.Fault.{Fault}
use Rattle.lfs_request.specs.declared.fault.Fault.TheVariants.{Image, Refused, JournalHasChanges, CannotWrite}
use Rattle.lfs_request.specs.declared.outcome.Outcome.{Outcome}
use Rattle.lfs_change.specs.Adopting.{IsAdoption, RefusesAdopting, adopted_with}
use Rattle.lfs_change.specs.declared.adopting.Adoption.{Adoption}
use Rattle.lfs_step.specs.Adopting.{IsTakenOver, LeavesTakenOver, RefusesImageTaken, RefusesTaking, SendsChanged, drops_changes, is_empty, journal_left, journal_stays}
use Rattle.lfs_step.specs.ChangedText.{changed_text}
use Rattle.lfs_step.proofs.ComparingLemmas.{same_kept}

-- ---- lists without elements

pub none_there : (xs : List ℕ) → is_empty xs ≡ true → xs ≡ []
none_there [] none = refl
none_there (x ∷ xs) none =
    let zero_long : length (x ∷ xs) ≡ 0 = eqb-true (length (x ∷ xs)) 0 none in
    absurd (omega (arith, zero_long))

first_true : (a b : Bool) → (a && b) ≡ true → a ≡ true
first_true true b both = refl
first_true false b both = cc

-- where a journal stays no block changes
pub none_changed : (changed journal : List ℕ) → journal_stays changed journal ≡ true → changed ≡ []
none_changed changed journal stays = none_there changed (first_true (is_empty changed) (not (is_empty journal)) stays)

-- a journal without changes is that of an image to which nothing was done
pub no_changes : (e : Disk) (size count : ℕ) (patches : List ChangeSet) → size ≡ e.size → count ≡ e.count → patches ≡ []
    → book_of size count patches 0 ≡ journal_of (fresh_history e)
no_changes e size count patches sizes counts none =
    ap₂ (λ (s n : ℕ). book_of s n patches 0) sizes counts ∙ ap (λ (ps : List ChangeSet). book_of e.size e.count ps 0) none

-- ---- an image that isn't taken over

pub adopting_refused : (replaces : Bool) (d : Disk) (journal : List ℕ) (f : Fault) → RefusesAdopting d f → RefusesImageTaken replaces d journal f
adopting_refused replaces d journal JournalHasChanges refuses = absurd refuses
adopting_refused replaces d journal CannotWrite refuses = absurd refuses
adopting_refused replaces d journal f refuses = refuses

pub adopting_silent : (form : Form) (d e : Disk) (f : Fault) (sent : Option (List ℕ)) → RefusesAdopting d f → SendsChanged form d e (Some f) sent sent
adopting_silent form d e CannotWrite sent refuses = absurd refuses
adopting_silent form d e f sent refuses = same_kept sent

-- nothing is said for want of memory
pub memory_silent : (form : Form) (d e : Disk) (sent : Option (List ℕ)) → SendsChanged form d e (Some (Refused Memory)) sent sent
memory_silent form d e sent = same_kept sent

-- ---- a journal that would be replaced

has_changes_told : (t : Bool) (f : Fault) → Some f ≡ (if t then Some JournalHasChanges else None) → (t ≡ true) × (f ≡ JournalHasChanges)
has_changes_told true f is = (refl, ap (λ (o : Option Fault). unwrap_or o f) is)
has_changes_told false f is = cc

pub none_dropped : (t : Bool) → None ≡ (if t then Some JournalHasChanges else None) → t ≡ false
none_dropped true is = cc
none_dropped false is = refl

-- it is why the image isn't taken over
pub is_changes : (replaces : Bool) (changed journal : List ℕ) (f : Fault)
    → Some f ≡ (if not replaces && drops_changes changed journal then Some JournalHasChanges else None) → f ≡ JournalHasChanges
is_changes replaces changed journal f is = (has_changes_told (not replaces && drops_changes changed journal) f is).1

pub replacing_refused : (replaces : Bool) (d e : Disk) (changed journal : List ℕ) (f : Fault) → IsAdoptedImage d e → changed ≡ changed_blocks d e
    → Some f ≡ (if not replaces && drops_changes changed journal then Some JournalHasChanges else None) → RefusesImageTaken replaces d journal f
replacing_refused replaces d e changed journal f adopted are is =
    let told = has_changes_told (not replaces && drops_changes changed journal) f is in
    let drops = ap (λ (l : List ℕ). not replaces && drops_changes l journal) (sym are) ∙ told.0 in
    subst (RefusesImageTaken replaces d journal) (sym told.1) (e, adopted, drops)

pub replacing_silent : (form : Form) (d e : Disk) (f : Fault) (sent : Option (List ℕ)) → f ≡ JournalHasChanges
    → SendsChanged form d e (Some f) sent sent
replacing_silent form d e f sent is = subst (λ (x : Fault). SendsChanged form d e (Some x) sent sent) (sym is) (same_kept sent)

-- ---- standard output that fails

pub is_unwritten : (complete : Bool) (f : Fault) → Some f ≡ (if complete then None else Some CannotWrite) → (complete ≡ false) × (f ≡ CannotWrite)
is_unwritten true f is = cc
is_unwritten false f is = (refl, ap (λ (o : Option Fault). unwrap_or o f) is)

pub unwritten_refused : (replaces : Bool) (d e : Disk) (journal : List ℕ) (f : Fault) → IsAdoptedImage d e → f ≡ CannotWrite
    → RefusesImageTaken replaces d journal f
unwritten_refused replaces d e journal f adopted is = subst (RefusesImageTaken replaces d journal) (sym is) (e, adopted)

-- a beginning went out
pub unwritten_sent : (form : Form) (d e x : Disk) (text : List ℕ) (complete : Bool) (f : Fault) (old new : Option (List ℕ)) → IsAdoptedImage d e
    → text ≡ changed_text form (changed_blocks d e) → Sends complete old new text → complete ≡ false → f ≡ CannotWrite
    → SendsChanged form d x (Some f) old new
unwritten_sent form d e x text complete f old new adopted told sends incomplete is =
    let begins : SendsBeginning old new text = subst (λ (b : Bool). Sends b old new text) incomplete sends in
    subst (λ (y : Fault). SendsChanged form d x (Some y) old new) (sym is)
    (e, adopted, subst (SendsBeginning old new) told begins)

-- ---- what is left of bytes

pub over_refused : (replaces : Bool) (size : ℕ) (bytes journal : List ℕ) (d : Disk) (f : Fault) → IsDisk d → d.size ≡ size → d.bytes ≡ bytes
    → RefusesImageTaken replaces d journal f → RefusesTaking replaces size bytes journal f
over_refused replaces size bytes journal d (Image f) is sizes same refuses = absurd refuses
over_refused replaces size bytes journal d f is sizes same refuses =
    at_bytes d size bytes (λ (x : Disk). IsDisk x × RefusesImageTaken replaces x journal f) is sizes same (is, refuses)

-- the bytes that are left are the image
pub left_is : (size : ℕ) (d e : Disk) (left : List ℕ) → d.size ≡ size → IsAdoptedImage d e → left ≡ e.bytes → image_of size left ≡ e
left_is size d e left sizes adopted same = ap₂ image_of (sym sizes ∙ sym adopted.size) same ∙ image_of_disk e adopted.disk

pub over_left : (replaces : Bool) (size : ℕ) (bytes journal : List ℕ) (d : Disk) (a : Adoption) (o : Outcome) → IsDisk d → d.size ≡ size
    → d.bytes ≡ bytes → IsAdoption d a → (not replaces && drops_changes a.changed.items journal) ≡ false
    → o.image.items ≡ (adopted_with d a).bytes → o.journal.items ≡ journal_left a.changed.items (adopted_with d a) journal
    → LeavesTakenOver replaces size bytes journal o
over_left replaces size bytes journal d a o is sizes same adoption may image left =
    let e = adopted_with d a in
    let taken : IsTakenOver replaces d journal e o.journal.items = record {
      old = is;
      adopted = adoption.adopted;
      history = adoption.history;
      journal_is = left ∙ ap (λ (changed : List ℕ). journal_left changed e journal) adoption.changed;
      may = ap (λ (changed : List ℕ). not replaces && drops_changes changed journal) (sym adoption.changed) ∙ may;
    } in
    let of_bytes = subst (λ (x : Disk). IsTakenOver replaces d journal x o.journal.items)
    (sym (left_is size d e o.image.items sizes adoption.adopted image)) taken in
    at_bytes d size bytes (λ (x : Disk). IsTakenOver replaces x journal (image_of size o.image.items) o.journal.items) is sizes same of_bytes

-- ---- what is said of bytes

pub over_said : (form : Form) (size : ℕ) (bytes left : List ℕ) (d e : Disk) (old new : Option (List ℕ)) → IsDisk d → d.size ≡ size
    → d.bytes ≡ bytes → IsAdoptedImage d e → left ≡ e.bytes → SendsChanged form d e None old new
    → SendsChanged form (image_of size bytes) (image_of size left) None old new
over_said form size bytes left d e old new is sizes same adopted image sends =
    let of_bytes = subst (λ (x : Disk). SendsChanged form d x None old new) (sym (left_is size d e left sizes adopted image)) sends in
    at_bytes d size bytes (λ (x : Disk). SendsChanged form x (image_of size left) None old new) is sizes same of_bytes

-- with a fault no new image matters
any_image : (form : Form) (d x y : Disk) (f : Fault) (old new : Option (List ℕ)) → SendsChanged form d x (Some f) old new
    → SendsChanged form d y (Some f) old new
any_image form d x y CannotWrite old new sends = sends
any_image form d x y f old new sends = sends

pub over_unsaid : (form : Form) (size : ℕ) (bytes : List ℕ) (d e : Disk) (f : Fault) (old new : Option (List ℕ)) → IsDisk d → d.size ≡ size
    → d.bytes ≡ bytes → SendsChanged form d d (Some f) old new → SendsChanged form (image_of size bytes) e (Some f) old new
over_unsaid form size bytes d e f old new is sizes same sends =
    at_bytes d size bytes (λ (x : Disk). SendsChanged form x e (Some f) old new) is sizes same (any_image form d d e f old new sends)
