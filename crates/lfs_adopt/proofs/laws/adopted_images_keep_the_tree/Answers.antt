use Rattle.lfs_adopt.proofs.AdoptedImage.{adopted_images_hold, adopted_images_keep}
use Rattle.lfs_adopt.proofs.laws.adopted_images_keep_the_tree.Goals as goal

pub returns-clause-hold : goal.returns-clause-hold
returns-clause-hold c =
    adopted_images_hold
    (record {
      found = c.chains_stay_on_their_blocks.ensures.found;
      content = c.chains_stay_on_their_blocks.ensures.content;
      stay = c.stored_links_stay.ensures.alike;
      by_links = c.both_sides_hold.ensures.links;
      along = c.both_sides_hold.ensures.thread;
      pairs = c.same_readings_hold_the_same.ensures.pairs;
    })

pub returns-clause-tree : goal.returns-clause-tree
returns-clause-tree c =
    adopted_images_keep
    (record {
      found = c.chains_stay_on_their_blocks.ensures.found;
      content = c.chains_stay_on_their_blocks.ensures.content;
      stay = c.stored_links_stay.ensures.alike;
      by_links = c.both_sides_hold.ensures.links;
      along = c.both_sides_hold.ensures.thread;
      pairs = c.same_readings_hold_the_same.ensures.pairs;
    })
