-- The outcome where all is forgotten but an image (own).
use Rattle.std.specs.Prelude.{◌≡◌, ℕ, List, [], Option, Some, None}
use Rattle.lfs_block.specs.Disk.{IsDisk, image_of}
use Rattle.lfs_block.specs.ImageFault.{IsNoImage}
use Rattle.lfs_fs.specs.Cause.{HasCause}
use Rattle.lfs_command.specs.declared.refusal.Refusal.TheVariants.{Memory}
use Rattle.lfs_journal.specs.Book.{journal_bytes}
use Rattle.lfs_history.specs.History.{fresh_history}
use Rattle.lfs_history.specs.Opening.{journal_of}
use Rattle.lfs_request.specs.declared.fault.Fault.{Fault}
use Rattle.lfs_request.specs.declared.fault.Fault.TheVariants.{Image, Mount, Refused}
use Rattle.lfs_request.specs.declared.outcome.Outcome.{Outcome}
use Rattle.lfs_change.specs.Change.{Denotes}

-- The bytes are an image that mounts, whatever its journal was. The outcome is that image, and the journal of one that nothing was done
-- to.
pub record IsForgotten (size : ℕ) (image : List ℕ) (outcome : Outcome) : Type 0 where
  pub denotes : Denotes size image [] (fresh_history (image_of size image))
  pub image_is : outcome.image.items ≡ image
  pub journal_is : outcome.journal.items ≡ journal_bytes (journal_of (fresh_history (image_of size image)))

-- why nothing is forgotten: the bytes are no image, or one that has a cause; or want of memory
abbrev pub RefusesForgetting : ℕ → List ℕ → Fault → Type 0
RefusesForgetting size image (Image fault) = IsNoImage fault size image
RefusesForgetting size image (Mount fault) = IsDisk (image_of size image) × HasCause (image_of size image) fault
RefusesForgetting size image (Refused refusal) = IsDisk (image_of size image) × (refusal ≡ Memory)
RefusesForgetting size image _ = ⊥

-- what is answered; with a fault, image and journal are those that were handed in
abbrev pub AnswersForgetting : Option Fault → ℕ → List ℕ → List ℕ → Outcome → Type 0
AnswersForgetting None size image journal outcome = IsForgotten size image outcome
AnswersForgetting (Some fault) size image journal outcome =
    (outcome.image.items ≡ image) × (outcome.journal.items ≡ journal) × RefusesForgetting size image fault
