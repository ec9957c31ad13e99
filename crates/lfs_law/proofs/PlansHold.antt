-- Where the outline of what an accepted command leaves is written, the image holds it.
use Rattle.std.proofs.Common.{◌≤◌}
use Rattle.lfs_block.specs.Patch.{applied}
use Rattle.lfs_fs.specs.Reading.{reading_of}
use Rattle.lfs_fs.specs.Stored.{HeldByLinksAreHeld}
use Rattle.lfs_command.specs.Edited.{edited}
use Rattle.lfs_command.specs.Cut.{cut}
use Rattle.lfs_command.specs.Clean.{clean}
use Rattle.lfs_command.specs.Accepted.{Follows}
use Rattle.lfs_command.specs.Growth.{count_after, grown}
use Rattle.lfs_law.specs.Laws.{CutsFollow, CutsAreFrugal, CleansFollow}
use Rattle.lfs_law.specs.Written.{IsEditOf, WrittenAreHeld}
use Rattle.lfs_law.specs.OutlineLaws.{OutlinesAreWritten}
use Rattle.lfs_law.specs.PlansHold.{PlansHold}
use Rattle.lfs_law.proofs.GrowFollows.{accepted_grow, grown_sound}

pub plans_hold : CutsFollow → CleansFollow → CutsAreFrugal → WrittenAreHeld → HeldByLinksAreHeld → OutlinesAreWritten → PlansHold
plans_hold cuts cleans frugal written by_links outlines d v c s chosen old new is_new base p held says ok pairs writes =
    let w = cut chosen (edited v c s) in
    let follows : Follows v c w = cuts v c s chosen ok pairs in
    let more : v.count ≤ count_after c v.count = accepted_grow v c s ok in
    let edit : IsEditOf (grown c v) w = record {
      old_sound = grown_sound v c ok.sound more;
      new_sound = follows.sound;
      kept = frugal v c s chosen;
      size = follows.size;
      count = follows.count;
      limits = follows.limits;
    } in
    by_links (reading_of (applied p d)) (clean w) (cleans v w c follows).sound
    (written d (applied p d) (grown c v) w old new held says edit (outlines d (grown c v) w old new is_new base p writes))
