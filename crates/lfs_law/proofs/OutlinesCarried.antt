-- What is worked out on an outline for a command holds of its volume.
use Rattle.std.proofs.Common.{ℕ, ◌+◌, List, ap, sym, ◌∙◌, subst}
use Rattle.lfs_meta.specs.Body.{Pair}
use Rattle.lfs_fs.specs.Directory.{Part}
use Rattle.lfs_fs.specs.Outlined.{outlined}
use Rattle.lfs_fs.specs.Volume.{Volume}
use Rattle.lfs_command.specs.Command.{Command}
use Rattle.lfs_command.specs.Supplies.{Supplies}
use Rattle.lfs_command.specs.Edited.{edited}
use Rattle.lfs_law.specs.Laws.{NeedIsTheSame}
use Rattle.lfs_command.specs.Need.{data_blocks, directory_blocks}
use Rattle.lfs_law.specs.OutlineCarried.{IsCarried, OutlinesAreCarried}
use Rattle.lfs_law.proofs.LargeParts.{large_is_the_same}
use Rattle.lfs_law.proofs.OutlineCuts.{cuts_outline}
use Rattle.lfs_law.proofs.OutlineRoom.{outlines_take_same_room, pairs_are_chosen_alike}
use Rattle.lfs_law.proofs.OutlinesFollow.{outlines_follow}

carried_by : NeedIsTheSame → (v : Volume) (c : Command) (s : Supplies) (chosen : Part → List Pair)
    → IsCarried v c s chosen (outlined (edited v c s))
carried_by need_same v c s chosen =
    let room = outlines_take_same_room (edited v c s) in
    let alike = pairs_are_chosen_alike chosen (edited v c s) in
    record {
      after = cuts_outline chosen (edited v c s);
      enough = alike.enough;
      pairs = alike.pairs;
      needed = need_same v c s ∙ ap (λ (n : ℕ). data_blocks v c + directory_blocks c + n) (sym room.blocks);
      large = λ other. large_is_the_same v c s other ∙ sym room.large;
    }

pub outlines_are_carried : NeedIsTheSame → OutlinesAreCarried
outlines_are_carried need_same v c s chosen = subst (IsCarried v c s chosen) (outlines_follow v c s) (carried_by need_same v c s chosen)
