-- What is of the thread is taken from the draft that is settled, joined and tidied.
use Rattle.std.proofs.Common.{List, Bool, subst}
use Rattle.lfs_block.specs.Disk.{Disk}
use Rattle.lfs_adopt.specs.Draft.{drafted}
use Rattle.lfs_adopt.specs.Rewritten.{AreTaken}
use Rattle.lfs_adopt.proofs.AdoptedImage.{adopted_image}
use Rattle.lfs_adopt.proofs.adopting.adopted.Goals as goal

pub returns-clause-image : goal.returns-clause-image
returns-clause-image c =
    let d : Disk = c.args.image.now.disk in
    let t : Disk = drafted c.in_ok-rewritten.rewritten in
    let e : Disk = drafted c.in_ok-draft.draft in
    adopted_image c.parts_depend_on_their_blocks.ensures d t e c.in_ok-flags.flags.items c.size-fits_the_limits.ensures.disk
    c.in_ok-rewritten.ensures.draft c.in_ok-flags.ensures
    (subst (λ (flags : List Bool). AreTaken d t e flags d.count) c.deref.ensures.value c.in_ok-draft.ensures.taken)
