use Rattle.lfs_settle.proofs.SettledImage.{relaid_images_hold}
use Rattle.lfs_settle.proofs.laws.relaid_images_hold_what_is_read.Goals as goal

pub returns : goal.returns
returns c =
    relaid_images_hold
    (record {
      found = c.chains_stay_on_their_blocks.ensures.found;
      content = c.chains_stay_on_their_blocks.ensures.content;
      stay = c.stored_links_stay.ensures.alike;
      by_links = c.both_sides_hold.ensures.links;
      along = c.both_sides_hold.ensures.thread;
      pairs = c.same_readings_hold_the_same.ensures.pairs;
    })
