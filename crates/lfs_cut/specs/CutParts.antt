-- Parts and directories that are cut where they stand (own).
use Rattle.std.specs.Prelude.{ℕ, true, List, [], ◌∷◌, ◌++◌, if◌then◌else◌, flat_map}
use Rattle.lfs_meta.specs.Runs.{first_run, later_runs}
use Rattle.lfs_fs.specs.Directory.{Part, Directory}
use Rattle.lfs_command.specs.Cut.{more_parts}
use Rattle.lfs_law.specs.PartsCut.{runs_by}
use Rattle.lfs_cut.specs.Chosen.{PairRow, chosen_for}

-- the part with its first run
abbrev pub with_first_run : ℕ → ℕ → Part → Part
with_first_run room superblock p = record {
  pair = p.pair;
  entries = first_run (runs_by room superblock p);
  delta = p.delta;
  dirty = p.dirty;
}

-- a part that is set keeps its first run
abbrev pub head_by : ℕ → ℕ → Part → Part
head_by room superblock p = if p.dirty then record {
  pair = p.pair;
  entries = first_run (runs_by room superblock p);
  delta = p.delta;
  dirty = true;
} else p

-- the other runs go to new parts, in the pairs of its row
abbrev pub tail_by : ℕ → ℕ → List PairRow → Part → List Part
tail_by room superblock rows p = if p.dirty then more_parts (chosen_for rows p) (later_runs (runs_by room superblock p)) else []

-- both for each of some parts
abbrev pub cut_all : ℕ → ℕ → List PairRow → List Part → List Part
cut_all room superblock rows ps = flat_map (λ p. head_by room superblock p ∷ tail_by room superblock rows p) ps

-- both for each part of a directory
abbrev pub directory_by : ℕ → ℕ → List PairRow → Directory → Directory
directory_by room superblock rows d = record {
  first = head_by room superblock d.first;
  more = tail_by room superblock rows d.first ++ cut_all room superblock rows d.more;
}
