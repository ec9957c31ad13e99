-- A part, cut by itself (own).
use Rattle.std.specs.Prelude.{ℕ, ◌≡◌, true, List, [], ◌∷◌, if◌then◌else◌, map, flat_map}
use Rattle.lfs_meta.specs.Body.{Pair}
use Rattle.lfs_meta.specs.Runs.{runs_after, first_run, later_runs}
use Rattle.lfs_fs.specs.Pair.{root, same_pair}
use Rattle.lfs_fs.specs.Entry.{Entry}
use Rattle.lfs_fs.specs.Weight.{weight, superblock_weight}
use Rattle.lfs_fs.specs.Directory.{Part, Directory, parts}
use Rattle.lfs_fs.specs.Thread.{Link, links_of, links}
use Rattle.lfs_fs.specs.Volume.{Volume}
use Rattle.lfs_command.specs.Cut.{room, more_parts, cut_head, cut_tail, cut_directory}

-- the runs of the entries of a pair, where a block has so much room for entries and the superblock weighs so much
abbrev pub runs_at : ℕ → ℕ → Pair → List Entry → List (List Entry)
runs_at room superblock pair es = if same_pair pair root then runs_after weight room superblock 1 es else runs_after weight room 0 0 es

abbrev pub runs_by : ℕ → ℕ → Part → List (List Entry)
runs_by room superblock p = runs_at room superblock p.pair p.entries

-- the parts that it becomes, where these pairs are chosen for it
abbrev pub parts_cut : ℕ → ℕ → List Pair → Part → List Part
parts_cut room superblock pairs p =
    if p.dirty
    then record { pair = p.pair; entries = first_run (runs_by room superblock p); delta = p.delta; dirty = true }
    ∷ more_parts pairs (later_runs (runs_by room superblock p))
    else p ∷ []

-- the links that a link becomes; the last one has its tail
abbrev pub cut_link : (Part → List Pair) → Volume → Link → List Link
cut_link chosen v l = links_of (cut_head v l.part) (cut_tail chosen v l.part) l.tail

-- the law: a directory is cut part by part
abbrev pub DirectoriesAreCutByPart : Type 0
DirectoriesAreCutByPart = (chosen : Part → List Pair) (v : Volume) (d : Directory)
    → parts (cut_directory chosen v d) ≡ flat_map (λ p. parts_cut (room v) (superblock_weight v.attributes) (chosen p) p) (parts d)

-- the law: a thread is cut link by link
abbrev pub LinksAreCutByLink : Type 0
LinksAreCutByLink = (chosen : Part → List Pair) (v : Volume) (ds : List Directory)
    → links (map (cut_directory chosen v) ds) ≡ flat_map (cut_link chosen v) (links ds)
