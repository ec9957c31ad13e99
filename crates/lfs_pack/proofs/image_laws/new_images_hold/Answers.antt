use Rattle.lfs_pack.proofs.NewImagesHeld.{new_images_hold}
use Rattle.lfs_pack.proofs.image_laws.new_images_hold.Goals as goal

pub returns : goal.returns
returns c =
    new_images_hold c.chains_stay_on_their_blocks.ensures.found c.chains_stay_on_their_blocks.ensures.content
    c.both_sides_hold.ensures.thread
