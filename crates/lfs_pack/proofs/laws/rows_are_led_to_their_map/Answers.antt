use Rattle.lfs_law.proofs.CarriedFollow.{carried_follow}
use Rattle.lfs_pack.proofs.LedLemmas.{led_to_their_map}
use Rattle.lfs_pack.proofs.laws.rows_are_led_to_their_map.Goals as goal

pub returns : goal.returns
returns c = led_to_their_map (carried_follow c.cuts_follow.ensures.cut c.cuts_follow.ensures.clean) c.paths_are_ordered.ensures
