use Rattle.lfs_adopt.proofs.TidiedTree.{tidied_images_keep, tidied_keep}
use Rattle.lfs_adopt.proofs.laws.tidied_keep_the_tree.Goals as goal

pub returns-clause-readings : goal.returns-clause-readings
returns-clause-readings c = tidied_keep

pub returns-clause-images : goal.returns-clause-images
returns-clause-images c =
    tidied_images_keep
    (record {
      found = c.chains_stay_on_their_blocks.ensures.found;
      content = c.chains_stay_on_their_blocks.ensures.content;
      stay = c.stored_links_stay.ensures.alike;
      by_links = c.both_sides_hold.ensures.links;
      along = c.both_sides_hold.ensures.thread;
      pairs = c.same_readings_hold_the_same.ensures.pairs;
    })
