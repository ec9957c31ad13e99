use Rattle.lfs_adopt.proofs.TidiedImage.{tidied_images_have, tidied_images_hold}
use Rattle.lfs_adopt.proofs.laws.tidied_images_hold_what_is_tidied.Goals as goal

pub returns-clause-hold : goal.returns-clause-hold
returns-clause-hold c =
    tidied_images_hold
    (record {
      found = c.chains_stay_on_their_blocks.ensures.found;
      content = c.chains_stay_on_their_blocks.ensures.content;
      stay = c.stored_links_stay.ensures.alike;
      by_links = c.both_sides_hold.ensures.links;
      along = c.both_sides_hold.ensures.thread;
      pairs = c.same_readings_hold_the_same.ensures.pairs;
    })

pub returns-clause-parts : goal.returns-clause-parts
returns-clause-parts c = tidied_images_have
