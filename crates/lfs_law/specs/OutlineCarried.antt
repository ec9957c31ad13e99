-- What is worked out on an outline for a command holds of its volume (own).
use Rattle.std.specs.Prelude.{◌≡◌, ℕ, ◌+◌, false, Bool, List, All, sum_by}
use Rattle.std.specs.List.{list_any}
use Rattle.lfs_meta.specs.Body.{Pair}
use Rattle.lfs_fs.specs.Pair.{root, same_pair}
use Rattle.lfs_fs.specs.Directory.{Part, thread}
use Rattle.lfs_fs.specs.Outlined.{outlined}
use Rattle.lfs_fs.specs.Volume.{Volume}
use Rattle.lfs_command.specs.Command.{Command}
use Rattle.lfs_command.specs.Supplies.{Supplies, nothing}
use Rattle.lfs_command.specs.Edited.{edited}
use Rattle.lfs_law.specs.EditedOutline.{edited_outline}
use Rattle.lfs_command.specs.Cut.{cut, HasEnough, new_pair_uses}
use Rattle.lfs_law.specs.CutOutline.{for_parts}
use Rattle.lfs_command.specs.Need.{dirty_parts, data_blocks, directory_blocks, part_blocks, need}
use Rattle.lfs_command.specs.Verdict.{is_too_large}

-- some part that is set has an entry that is too large
abbrev pub has_too_large : Volume → Bool
has_too_large w = list_any (is_too_large w) (dirty_parts w)

-- the law: this doesn't depend on what a command gets, unless it gets the root's pair
abbrev pub LargeIsTheSame : Type 0
LargeIsTheSame = (v : Volume) (c : Command) (s : Supplies) → same_pair s.pair root ≡ false
    → has_too_large (edited v c nothing) ≡ has_too_large (edited v c s)

-- The outline of a volume is edited and cut as the volume is, with pairs that are chosen for parts of the outline; its parts have too
-- large an entry, and need new blocks, as the volume's have.
pub record IsCarried (v : Volume) (c : Command) (s : Supplies) (chosen : Part → List Pair) (o : Volume) : Type 0 where
  pub after : outlined (cut (for_parts chosen) (edited v c s)) ≡ cut chosen o
  pub enough : All (HasEnough chosen o) (thread o.directories) → All (HasEnough (for_parts chosen) (edited v c s))
      (thread (edited v c s).directories)
  pub pairs : (b : ℕ) → new_pair_uses chosen o b ≡ new_pair_uses (for_parts chosen) (edited v c s) b
  pub needed : need v c ≡ data_blocks v c + directory_blocks c + sum_by (part_blocks o) (dirty_parts o)
  pub large : same_pair s.pair root ≡ false → has_too_large (edited v c nothing) ≡ has_too_large o

-- the law: so it is on the edited outline
abbrev pub OutlinesAreCarried : Type 0
OutlinesAreCarried = (v : Volume) (c : Command) (s : Supplies) (chosen : Part → List Pair)
    → IsCarried v c s chosen (edited_outline (outlined v) c s)
