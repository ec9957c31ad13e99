-- A lengthened volume stays sound, with the same tree.
use Rattle.std.proofs.Common.{ℕ, ◌≤◌, refl, arith}
use Rattle.lfs_fs.specs.Volume.{Volume}
use Rattle.lfs_fs.specs.Sound.{IsSound}
use Rattle.lfs_command.specs.Command.{Command, Mkdir, Put, Rm, Mv, SetAttr, RmAttr, Grow}
use Rattle.lfs_command.specs.Growth.{count_after, grown}
use Rattle.lfs_command.specs.Supplies.{Supplies}
use Rattle.lfs_command.specs.Edited.{set_count}
use Rattle.lfs_command.specs.Accepted.{IsAccepted}
use Rattle.lfs_law.proofs.Carries.{Carries}
use Rattle.lfs_law.proofs.CountsGrow.{grows}
use Rattle.lfs_law.proofs.Parents.{first_passes}
use Rattle.lfs_law.proofs.SameEdges.{tree_same}
use Rattle.lfs_law.proofs.SetFollows.{root_set_follows}
use Rattle.lfs_law.proofs.TouchFirst.{touch_first_edges, touch_first_effect}

-- a volume with no fewer blocks
pub grown_sound : (v : Volume) (c : Command) → IsSound v → v.count ≤ count_after c v.count → IsSound (grown c v)
grown_sound v c sound more = record {
  starts = sound.starts;
  order = sound.order;
  proper = sound.proper;
  root_attributes = sound.root_attributes;
  once = sound.once;
  within = λ b used. omega (arith, sound.within b used, more);
  names = sound.names;
  reached = sound.reached;
  settled = sound.settled;
}

set_count_sound : (v : Volume) (n : ℕ) → IsSound v → v.count ≤ n → IsSound (set_count n v)
set_count_sound v n sound more = (root_set_follows (grown (Grow n) v) (λ a. a) (grown_sound v (Grow n) sound more) (λ a good. good)).sound

pub grow_follows : (v : Volume) (n : ℕ) (s : Supplies) → IsAccepted v (Grow n) s → Carries v (Grow n) s
grow_follows v n s ok =
    let more = grows v n (first_passes _ _ ok.unrefused).0 in
    record {
      follows = record {
        sound = set_count_sound v n ok.sound (omega (arith, more.1));
        at = λ q. tree_same v (set_count n v) (touch_first_edges v.directories) refl q;
        size = refl;
        count = refl;
        limits = refl;
      };
      uses = λ b. omega (arith, (touch_first_effect v.directories).uses b);
    }

-- an accepted command leaves no fewer blocks
pub accepted_grow : (v : Volume) (c : Command) (s : Supplies) → IsAccepted v c s → v.count ≤ count_after c v.count
accepted_grow v (Mkdir p) s ok = omega arith
accepted_grow v (Put p bytes most) s ok = omega arith
accepted_grow v (Rm p) s ok = omega arith
accepted_grow v (Mv p q) s ok = omega arith
accepted_grow v (SetAttr p k value) s ok = omega arith
accepted_grow v (RmAttr p k) s ok = omega arith
accepted_grow v (Grow n) s ok = omega (arith, (grows v n (first_passes _ _ ok.unrefused).0).1)
