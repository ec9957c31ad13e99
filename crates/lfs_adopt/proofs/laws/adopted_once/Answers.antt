use Rattle.lfs_adopt.proofs.AdoptedAgain.{again_keep, sound_keep}
use Rattle.lfs_adopt.proofs.laws.adopted_once.Goals as goal

pub returns-clause-sound : goal.returns-clause-sound
returns-clause-sound c =
    sound_keep
    (record {
      found = c.chains_stay_on_their_blocks.ensures.found;
      content = c.chains_stay_on_their_blocks.ensures.content;
      stay = c.stored_links_stay.ensures.alike;
      by_links = c.both_sides_hold.ensures.links;
      along = c.both_sides_hold.ensures.thread;
      pairs = c.same_readings_hold_the_same.ensures.pairs;
    })
    c.settled_stays.ensures c.one_superblock_stays.ensures

pub returns-clause-once : goal.returns-clause-once
returns-clause-once c =
    again_keep
    (record {
      found = c.chains_stay_on_their_blocks.ensures.found;
      content = c.chains_stay_on_their_blocks.ensures.content;
      stay = c.stored_links_stay.ensures.alike;
      by_links = c.both_sides_hold.ensures.links;
      along = c.both_sides_hold.ensures.thread;
      pairs = c.same_readings_hold_the_same.ensures.pairs;
    })
    c.settled_stays.ensures c.one_superblock_stays.ensures
