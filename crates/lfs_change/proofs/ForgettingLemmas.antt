-- What is answered where all but an image is forgotten.
use Rattle.std.proofs.Common.{◌≡◌, ℕ, List, [], refl, sym, subst, ap, ◌∙◌}
use Rattle.lfs_block.specs.Disk.{Disk, IsDisk}
use Rattle.lfs_block.specs.declared.mount_fault.MountFault.{MountFault}
use Rattle.lfs_block.specs.declared.mount_fault.MountFault.TheVariants.{Memory as No_memory}
use Rattle.lfs_journal.specs.Book.{journal_bytes}
use Rattle.lfs_fs.specs.Cause.{HasCause}
use Rattle.lfs_history.specs.History.{History, IsHistory, fresh_history}
use Rattle.lfs_history.specs.Opening.{journal_of}
use Rattle.lfs_request.specs.declared.outcome.Outcome.{Outcome}
use Rattle.lfs_change.specs.Change.{DenotesOn}
use Rattle.lfs_request.specs.Fault.{fault_of_mount}
use Rattle.lfs_change.specs.Forgetting.{AnswersForgetting, IsForgotten, RefusesForgetting}
use Rattle.lfs_block.proofs.BytesLemmas.{image_of_disk}

-- an image that is a session that nothing was done to
pub forgets : (d : Disk) (h : History) (o : Outcome) → IsDisk d → h ≡ fresh_history d → IsHistory h → o.image.items ≡ h.present.bytes
    → o.journal.items ≡ journal_bytes (journal_of h) → IsForgotten d.size d.bytes o
forgets d h o is fresh history image journal =
    let same = sym (image_of_disk d is) in
    let denotes : IsDisk d × DenotesOn d [] (fresh_history d) = (is, (refl, subst IsHistory fresh history)) in
    record {
      denotes = subst (λ (e : Disk). IsDisk e × DenotesOn e [] (fresh_history e)) same denotes;
      image_is = image ∙ ap (λ (x : History). x.present.bytes) fresh;
      journal_is = journal ∙ ap (λ (x : History). journal_bytes (journal_of x)) fresh
          ∙ ap (λ (e : Disk). journal_bytes (journal_of (fresh_history e))) same;
    }

-- an image that doesn't mount
pub keeps : (f : MountFault) (d : Disk) → IsDisk d → HasCause d f → RefusesForgetting d.size d.bytes (fault_of_mount f)
keeps No_memory d is cause = (subst IsDisk (sym (image_of_disk d is)) is, refl)
keeps f d is cause =
    let same = sym (image_of_disk d is) in
    (subst IsDisk same is, subst (λ (e : Disk). HasCause e f) same cause)

-- on an image and on its bytes
pub forgetting_answers : (size : ℕ) (bytes journal : List ℕ) (d : Disk) (o : Outcome) → d.size ≡ size → d.bytes ≡ bytes
    → AnswersForgetting o.fault d.size d.bytes journal o → AnswersForgetting o.fault size bytes journal o
forgetting_answers size bytes journal d o e f answers =
    let by_size = subst (λ (n : ℕ). AnswersForgetting o.fault n d.bytes journal o) e answers in
    subst (λ (l : List ℕ). AnswersForgetting o.fault size l journal o) f by_size
