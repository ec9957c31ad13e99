-- The parts of a thread, as they are read and kept from the root's pair on (own).
use Rattle.std.specs.Prelude.{◌≡◌, Bool, List, [], ◌∷◌, ◌++◌, length, map, Some, All}
use Rattle.std.specs.List.{AllByRecursion}
use Rattle.lfs_meta.specs.Body.{Pair}
use Rattle.lfs_meta.specs.Complete.{IsComplete}
use Rattle.lfs_fs.specs.Pair.{root}
use Rattle.lfs_meta.specs.Entry.{StoredEntry}
use Rattle.lfs_fs.specs.declared.joined.Joined.{Joined}
use Rattle.lfs_fs.specs.declared.limits.Limits.{Limits}
use Rattle.lfs_fs.specs.Gathering.{KeepsParts, PairPart, as_directory, delta_from}
use Rattle.lfs_fs.specs.Judged.{SaysLimits, with_entries}
use Rattle.lfs_fs.specs.Reading.{Reading}
use Rattle.lfs_fs.specs.Front.{IsThread, pairs_name}
use Rattle.lfs_fs.specs.Used.{Marks}

-- the pairs of parts
abbrev pub pairs_of : List PairPart → List Pair
pairs_of ps = map (λ p. p.0) ps

-- a part is what its pair holds, and all its entries are complete
pub record IsPartRead (r : Reading) (p : PairPart) : Type 0 where
  pub read : r.part p.0 ≡ Some p.1
  pub complete : AllByRecursion IsComplete p.1.entries

-- the part is the one of the root's first pair, whose blocks are marked
pub record IsRootRead (r : Reading) (p : PairPart) (used : List Bool) : Type 0 where
  pub at : p.0 ≡ root
  pub part : IsPartRead r p
  pub len : length used ≡ r.count
  pub marks : Marks used (λ b. pairs_name b (root ∷ []))

-- the same, less its first entry, a superblock that says these limits
pub record IsRootTaken (r : Reading) (limits : Limits) (p : PairPart) (used : List Bool) : Type 0 where
  pub superblock : StoredEntry
  pub at : p.0 ≡ root
  pub read : r.part root ≡ Some (with_entries p (superblock ∷ p.1.entries)).1
  pub complete : AllByRecursion IsComplete p.1.entries
  pub judged : SaysLimits r.size r.count limits superblock
  pub len : length used ≡ r.count
  pub marks : Marks used (λ b. pairs_name b (root ∷ []))

-- the parts of the thread behind this one are read, and all are kept as directories, the blocks of their pairs and files marked
pub record IsThreadKept (r : Reading) (limits : Limits) (p : PairPart) (used : List Bool) (joined : Joined) : Type 0 where
  pub rest : List PairPart
  pub later : All (IsPartRead r) rest
  pub is_thread : IsThread r (p.0 ∷ pairs_of rest)
  pub kept : KeepsParts r limits (λ b. pairs_name b (p.0 ∷ pairs_of rest)) used (p ∷ rest)
      (joined.directories.items ++ as_directory joined.parts.items)
  pub state : joined.state ≡ delta_from (p ∷ rest)
