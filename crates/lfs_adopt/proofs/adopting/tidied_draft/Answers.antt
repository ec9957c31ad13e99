-- What is ended in the draft is ended in the image.
use Rattle.std.proofs.Common.{subst}
use Rattle.lfs_block.specs.Disk.{Disk}
use Rattle.lfs_lower.specs.LaterReading.{later_reading_of}
use Rattle.lfs_settle.specs.Ended.{Ends}
use Rattle.lfs_adopt.proofs.adopting.tidied_draft.Goals as goal

pub returns-clause-ended : goal.returns-clause-ended
returns-clause-ended c =
    subst (λ (d : Disk). Ends (later_reading_of d) c.in_ok-ended.ended) c.in_ok-draft.ensures.same c.in_ok-ended.ensures.ended
