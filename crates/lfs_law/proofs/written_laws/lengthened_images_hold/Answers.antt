use Rattle.lfs_law.proofs.LengthenedHeld.{lengthened_images_hold}
use Rattle.lfs_law.proofs.written_laws.lengthened_images_hold.Goals as goal

pub returns : goal.returns
returns c = lengthened_images_hold c.parts_depend_on_their_blocks.ensures c.chains_stay_on_their_blocks.ensures.found
    c.chains_stay_on_their_blocks.ensures.content
    c.stored_links_stay.ensures.alike
