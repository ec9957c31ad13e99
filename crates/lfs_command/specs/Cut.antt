-- How parts that overflow past their room are cut (own).
use Rattle.std.specs.Prelude.{ℕ, ◌≡◌, ◌-◌, Bool, true, List, [], ◌∷◌, ◌++◌, if◌then◌else◌, map, flat_map, length, sum_by}
use Rattle.lfs_meta.specs.Body.{Pair}
use Rattle.lfs_meta.specs.Runs.{runs_after, first_run, later_runs}
use Rattle.lfs_fs.specs.Pair.{root, same_pair}
use Rattle.lfs_fs.specs.Entry.{Entry}
use Rattle.lfs_fs.specs.Weight.{weight, superblock_weight}
use Rattle.lfs_fs.specs.Directory.{Part, Directory, thread}
use Rattle.lfs_fs.specs.Volume.{Volume}
use Rattle.lfs_fs.specs.Uses.{times}
use Rattle.lfs_command.specs.Edited.{with_directories}

-- what entries may weigh in one block: 4 bytes are kept for the revision, 12 for a tail, 16 for a delta, 8 for the checksum
abbrev pub room : Volume → ℕ
room v = v.size - 40

-- the part of the root that holds the superblock
abbrev pub is_first : Part → Bool
is_first p = same_pair p.pair root

-- the runs of a part's entries; the superblock counts as the first entry of its part
abbrev pub runs : Volume → Part → List (List Entry)
runs v p =
    if is_first p then runs_after weight (room v) (superblock_weight v.attributes) 1 p.entries
    else runs_after weight (room v) 0 0 p.entries

-- new parts for runs, in the pairs that are handed in
abbrev pub more_parts : List Pair → List (List Entry) → List Part
more_parts pairs [] = []
more_parts [] (run ∷ runs) = []
more_parts (pair ∷ pairs) (run ∷ runs) = record { pair = pair; entries = run; delta = 0; dirty = true } ∷ more_parts pairs runs

-- a part that is set keeps its first run, and its delta
abbrev pub cut_head : Volume → Part → Part
cut_head v p = if p.dirty then record { pair = p.pair; entries = first_run (runs v p); delta = p.delta; dirty = true } else p

-- the other runs go to new parts right behind it, in the pairs chosen for it
abbrev pub cut_tail : (Part → List Pair) → Volume → Part → List Part
cut_tail chosen v p = if p.dirty then more_parts (chosen p) (later_runs (runs v p)) else []

-- both for each part of a directory
abbrev pub cut_directory : (Part → List Pair) → Volume → Directory → Directory
cut_directory chosen v d = record {
  first = cut_head v d.first;
  more =
      cut_tail chosen v d.first ++ flat_map (λ p. cut_head v p ∷ cut_tail chosen v p) d.more;
}

-- and for all directories
abbrev pub cut : (Part → List Pair) → Volume → Volume
cut chosen v = with_directories v (map (cut_directory chosen v) v.directories)

-- the pairs that are used of those chosen
abbrev pub new_pairs : (Part → List Pair) → Part → List Pair
new_pairs chosen p = if p.dirty then chosen p else []

-- each part that is set has as many pairs as it has runs behind its first
abbrev pub HasEnough : (Part → List Pair) → Volume → Part → Type 0
HasEnough chosen v p = p.dirty ≡ true → length (chosen p) ≡ length (later_runs (runs v p))

-- how often the new pairs use a block
abbrev pub new_pair_uses : (Part → List Pair) → Volume → ℕ → ℕ
new_pair_uses chosen v b = sum_by (λ p. sum_by (λ (q : Pair). times b (q.0 ∷ q.1 ∷ [])) (new_pairs chosen p)) (thread v.directories)
