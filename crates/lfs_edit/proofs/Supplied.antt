-- The least free blocks as what a command takes for what it makes.
use Rattle.std.proofs.Common.{◌≡◌, ◌≤◌, ℕ, length, take, ap, ◌∙◌, arith, inl, inr}
use Rattle.lfs_fs.specs.Free.{free_blocks}
use Rattle.lfs_fs.specs.Sound.{IsSound}
use Rattle.lfs_fs.specs.Uses.{times}
use Rattle.lfs_fs.specs.Volume.{Volume}
use Rattle.lfs_draft.specs.LeastSupplies.{least_supplies, made_blocks}
use Rattle.lfs_command.specs.Command.{Command}
use Rattle.lfs_command.specs.Growth.{grown}
use Rattle.lfs_command.specs.Supplies.{AreFree, supply_uses}
use Rattle.lfs_law.proofs.FreeBlocks.{taken_free, taken_once}
use Rattle.lfs_law.proofs.LeastBlocks.{none_or_some}
use Rattle.lfs_law.proofs.LeastTaken.{made_used}
use Rattle.lfs_edit.proofs.OrderLemmas.{made_first}

-- they are free
pub supplies_free : (v : Volume) (c : Command) → IsSound v → made_blocks v c ≤ length (free_blocks (grown c v))
    → AreFree v c (least_supplies v c (free_blocks (grown c v)))
supplies_free v c sound enough = record {
  once = λ b. elim (none_or_some (times b (take (made_blocks v c) (free_blocks (grown c v))))) [
    | inl none ↦ omega (arith, none, taken b, sound.once b)
    | inr some ↦ omega (arith, taken b, taken_once (grown c v) (made_blocks v c) b, (taken_free (grown c v) (made_blocks v c) b some).0)
  ];
  within = λ b some. (taken_free (grown c v) (made_blocks v c) b (omega (arith, some, taken b))).1;
}
  where
    taken : (b : ℕ) → supply_uses v c (least_supplies v c (free_blocks (grown c v))) b ≡ times b (take (made_blocks v c) (free_blocks (grown c v)))
    taken b =
        made_used v c (least_supplies v c (free_blocks (grown c v))) b
        ∙ ap (times b) (made_first v c (free_blocks (grown c v)) enough)
