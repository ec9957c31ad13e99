-- An outline is judged as its volume is (own).
use Rattle.std.specs.Prelude.{◌≡◌, ℕ, List, All, sum_by}
use Rattle.std.specs.List.{list_any}
use Rattle.lfs_meta.specs.Body.{Pair}
use Rattle.lfs_fs.specs.Directory.{Part, thread}
use Rattle.lfs_fs.specs.Volume.{Volume}
use Rattle.lfs_fs.specs.Uses.{uses}
use Rattle.lfs_fs.specs.Free.{free_blocks}
use Rattle.lfs_fs.specs.Outlined.{outlined}
use Rattle.lfs_command.specs.Command.{Command}
use Rattle.lfs_command.specs.Need.{dirty_parts, part_blocks, need}
use Rattle.lfs_command.specs.Freed.{freed_uses}
use Rattle.lfs_command.specs.Verdict.{checks, is_too_large, verdict}
use Rattle.lfs_command.specs.Cut.{HasEnough, new_pair_uses}
use Rattle.lfs_law.specs.CutOutline.{for_parts}

-- The outline of a volume uses the same blocks, and its parts that are set take the same room.
pub record TakesSameRoom (v : Volume) : Type 0 where
  pub used : (b : ℕ) → uses b (outlined v) ≡ uses b v
  pub free : free_blocks (outlined v) ≡ free_blocks v
  pub large : list_any (is_too_large (outlined v)) (dirty_parts (outlined v)) ≡ list_any (is_too_large v) (dirty_parts v)
  pub blocks : sum_by (part_blocks (outlined v)) (dirty_parts (outlined v)) ≡ sum_by (part_blocks v) (dirty_parts v)

-- the law: an outline takes the same room
abbrev pub OutlinesTakeSameRoom : Type 0
OutlinesTakeSameRoom = (v : Volume) → TakesSameRoom v

-- A command has the same checks, the same verdict and the same need on an outline, and frees the same blocks.
pub record IsJudgedAlike (v : Volume) (c : Command) : Type 0 where
  pub checked : checks (outlined v) c ≡ checks v c
  pub judged : verdict (outlined v) c ≡ verdict v c
  pub needed : need (outlined v) c ≡ need v c
  pub freed : (b : ℕ) → freed_uses (outlined v) c b ≡ freed_uses v c b

-- the law: an outline is judged as its volume is
abbrev pub OutlinesAreJudgedAlike : Type 0
OutlinesAreJudgedAlike = (v : Volume) (c : Command) → IsJudgedAlike v c

-- Pairs that are enough for the parts of an outline are for those of its volume, and use the same blocks.
pub record AreChosenAlike (chosen : Part → List Pair) (v : Volume) : Type 0 where
  pub enough : All (HasEnough chosen (outlined v)) (thread (outlined v).directories)
      → All (HasEnough (for_parts chosen) v) (thread v.directories)
  pub pairs : (b : ℕ) → new_pair_uses chosen (outlined v) b ≡ new_pair_uses (for_parts chosen) v b

-- the law: pairs chosen for an outline are chosen for its volume
abbrev pub PairsAreChosenAlike : Type 0
PairsAreChosenAlike = (chosen : Part → List Pair) (v : Volume) → AreChosenAlike chosen v
