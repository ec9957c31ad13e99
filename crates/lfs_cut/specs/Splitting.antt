-- A list of entries that is split into runs, one entry after another (own).
use Rattle.std.specs.Prelude.{◌≡◌, ℕ, ◌≤◌, List, [], ◌∷◌, ◌++◌}
use Rattle.lfs_meta.specs.Runs.{runs_after, most_entries}
use Rattle.lfs_fs.specs.Entry.{Entry}
use Rattle.lfs_fs.specs.Weight.{weight}

-- the first run with others in front
abbrev pub with_run : List Entry → List (List Entry) → List (List Entry)
with_run run [] = []
with_run run (next ∷ runs) = (run ++ next) ∷ runs

-- Of all runs some are there, the last of them at work, which weighs so much and has so many entries; some entries are left.
pub record IsSplitTo (complete : List (List Entry)) (room : ℕ) (runs : List (List Entry)) (run : List Entry) (taken len : ℕ)
    (left : List Entry) : Type 0 where
  pub is : complete ≡ runs ++ with_run run (runs_after weight room taken len left)
  pub light : taken ≤ 330244
  pub few : len ≤ most_entries
