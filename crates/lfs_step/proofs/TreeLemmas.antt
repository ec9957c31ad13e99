-- What a change of a whole tree answers, by what its commands do.
use Rattle.std.proofs.Common.{ℕ, ◌≡◌, ◌∙◌, List, [], ◌∷◌, Option, Some, None, inl, inr, subst, sym}
use Rattle.lfs_block.specs.Disk.{IsDisk, image_of}
use Rattle.lfs_change.specs.Change.{AnswersChange, RefusesChange, RefusesImage}
use Rattle.lfs_command.specs.Command.{Asked}
use Rattle.lfs_history.specs.Taking.{Move, Together}
use Rattle.lfs_request.specs.declared.fault.Fault.{Fault}
use Rattle.lfs_request.specs.declared.fault.Fault.TheVariants.{Image}
use Rattle.lfs_request.specs.declared.outcome.Outcome.{Outcome}
use Rattle.lfs_step.specs.declared.step.Step.TheVariants.{Tree}
use Rattle.lfs_step.specs.Outcome.{given}
use Rattle.lfs_step.specs.TreeChanging.{Changing, IsAsked}
use Rattle.lfs_step.proofs.OutcomeLemmas.{AnswersBy}

-- its commands are one change
pub commands_answer : (changing : Changing) (keep : Option ℕ) (f : Option Fault) (asked : List Asked) (size : ℕ) (image journal : List ℕ)
    (o : Outcome) → IsAsked changing (image_of size image) asked → AnswersChange f (Together asked keep ∷ []) size image journal o
    → AnswersBy f (Tree changing keep) (given size image journal) o
commands_answer changing keep None asked size image journal o is changes = (asked, is, changes)
commands_answer changing keep (Some f) asked size image journal o is answers = ((answers.0, answers.1), inl (asked, is, answers.2))

-- none follow from the bytes
pub none_answer : (changing : Changing) (keep : Option ℕ) (f : Fault) (size : ℕ) (image journal : List ℕ) (o : Outcome)
    → AnswersChange (Some f) [] size image journal o → AnswersBy (Some f) (Tree changing keep) (given size image journal) o
none_answer changing keep f size image journal o answers = ((answers.0, answers.1), inr answers.2)

-- what is answered by bytes of an outcome, and by the place of its fault, is so by another one that has them too
pub told : (f : Option Fault) (moves : List Move) (size : ℕ) (image journal : List ℕ) (o p : Outcome) → p.image.items ≡ o.image.items
    → p.journal.items ≡ o.journal.items → p.at ≡ o.at → AnswersChange f moves size image journal o → AnswersChange f moves size image journal p
told None moves size image journal o p same kept at is = record {
  old = is.old;
  denotes = is.denotes;
  new = is.new;
  takes = is.takes;
  image_is = same ∙ is.image_is;
  journal_is = kept ∙ is.journal_is;
}
told (Some f) moves size image journal o p same kept at is =
    (same ∙ is.0, kept ∙ is.1, subst (λ (n : ℕ). RefusesChange moves n size image journal f) (sym at) is.2)

-- an image for which no commands follow is refused as its bytes are
pub refused_bytes : (at size : ℕ) (image journal : List ℕ) (f : Fault) → IsDisk (image_of size image)
    → RefusesImage [] at (image_of size image) journal f → RefusesChange [] at size image journal f
refused_bytes at size image journal (Image f) is refuses = absurd refuses
refused_bytes at size image journal f is refuses = (is, refuses)
