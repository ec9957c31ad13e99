-- What a query answers, from what is said of its image.
use Rattle.std.proofs.Common.{◌≡◌, ℕ, List, Option, Result, Ok, Err, IfErr, sym, subst}
use Rattle.std.specs.Prelude.{MatchOption}
use Rattle.std.specs.Result.{result_err}
use Rattle.lfs_block.specs.Disk.{Disk, IsDisk, image_of}
use Rattle.lfs_request.specs.declared.fault.Fault.{Fault}
use Rattle.lfs_request.specs.declared.fault.Fault.TheVariants.{Image}
use Rattle.lfs_request.specs.declared.outcome.Outcome.{Outcome}
use Rattle.lfs_json.specs.declared.form.Form.{Form}
use Rattle.lfs_block.proofs.BytesLemmas.{at_bytes}
use Rattle.lfs_request.specs.declared.query.Query.TheVariants.{Check, Ls, Blocks, Cat, Diff, Log}
use Rattle.lfs_step.specs.declared.step.Step.{Step}
use Rattle.lfs_step.specs.declared.step.Step.TheVariants.{Ask}
use Rattle.lfs_step.specs.Asking.{RefusesAsked, RefusesQuery, SendsAsked}
use Rattle.lfs_step.specs.Outcome.{Answers, AnswersDone, Given, KeepsBoth, Refuses, given}
use Rattle.lfs_request.specs.Query.{Question}

-- what is answered by a fault, or none
abbrev pub AnswersBy : Option Fault → Step → Given → Outcome → Type 0
AnswersBy fault step g outcome =
    MatchOption fault (AnswersDone step g outcome) (λ why. KeepsBoth g outcome × Refuses step g outcome.at why)

-- an image isn't refused as bytes are
no_image : (q : Question) (form : Form) (d : Disk) (journal : List ℕ) (f : _) → RefusesAsked q form d journal (Image f) → ⊥
no_image (Check version most) form d journal f refuses = refuses
no_image (Ls path digests) form d journal f refuses = refuses
no_image (Blocks sums) form d journal f refuses = refuses
no_image (Cat path) form d journal f refuses = refuses
no_image (Diff other size quiet) form d journal f refuses = refuses.1
no_image Log form d journal f refuses = refuses

refused_bytes : (q : Question) (form : Form) (size : ℕ) (bytes journal : List ℕ) (fault : Fault)
    → IsDisk (image_of size bytes) × RefusesAsked q form (image_of size bytes) journal fault → RefusesQuery q form size bytes journal fault
refused_bytes q form size bytes journal (Image fault) refuses = absurd (no_image q form (image_of size bytes) journal fault refuses.1)
refused_bytes q form size bytes journal fault refuses = refuses

answered : {T : Type 0} (q : Question) (form : Form) (d : Disk) (size : ℕ) (bytes journal : List ℕ) (reported : Result T Fault) (o : Outcome) → IsDisk d
    → d.size ≡ size → d.bytes ≡ bytes → IfErr reported (λ f. RefusesAsked q form d journal f) → o.image.items ≡ bytes → o.journal.items ≡ journal
    → AnswersBy (result_err reported) (Ask q form) (given size bytes journal) o
answered q form d size bytes journal (Ok x) o is sizes same refuses image kept = (image, kept)
answered q form d size bytes journal (Err f) o is sizes same refuses image kept = (
  (image, kept),
  refused_bytes q form size bytes journal f
      (at_bytes d size bytes (λ x. IsDisk x × RefusesAsked q form x journal f) is sizes same (is, refuses)),
)

pub query_answers : {T : Type 0} (q : Question) (form : Form) (size : ℕ) (bytes journal : List ℕ) (d : Disk) (reported : Result T Fault) (o : Outcome)
    → IsDisk d → d.size ≡ size → d.bytes ≡ bytes → IfErr reported (λ f. RefusesAsked q form d journal f) → o.fault ≡ result_err reported
    → o.image.items ≡ bytes → o.journal.items ≡ journal → Answers (Ask q form) (given size bytes journal) o
query_answers q form size bytes journal d reported o is sizes same refuses fault_is image kept =
    subst (λ (x : Option Fault). AnswersBy x (Ask q form) (given size bytes journal) o) (sym fault_is)
    (answered q form d size bytes journal reported o is sizes same refuses image kept)

pub query_sends : (q : Question) (form : Form) (size : ℕ) (bytes journal : List ℕ) (d : Disk) (f : Option Fault) (old new : Option (List ℕ)) → IsDisk d
    → d.size ≡ size → d.bytes ≡ bytes → SendsAsked q form d journal f old new → SendsAsked q form (image_of size bytes) journal f old new
query_sends q form size bytes journal d f old new is sizes same sends =
    at_bytes d size bytes (λ x. SendsAsked q form x journal f old new) is sizes same sends
