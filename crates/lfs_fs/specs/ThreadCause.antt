-- The causes that are read on the whole thread (own).
use Rattle.std.specs.Prelude.{ℕ, List}
use Rattle.lfs_meta.specs.Body.{Pair}
use Rattle.lfs_fs.specs.Directory.{thread}
use Rattle.lfs_fs.specs.State.{delta_of}
use Rattle.lfs_fs.specs.EntryFault.{NamesNoDirectory, LosesDirectory}
use Rattle.lfs_fs.specs.Reading.{Reading}
use Rattle.lfs_fs.specs.Front.{IsThread}
use Rattle.lfs_fs.specs.Superblock.{Header}
use Rattle.lfs_fs.specs.Held.{directories_at, volume_at}

-- an entry names a pair that begins no directory; limits and attributes don't matter
pub record ThreadMissing (r : Reading) : Type 0 where
  pub header : Header
  pub pairs : List Pair
  pub is_thread : IsThread r pairs
  pub missing : NamesNoDirectory (volume_at r header pairs)

-- a directory is not reached from the root; limits and attributes don't matter
pub record ThreadOrphan (r : Reading) : Type 0 where
  pub header : Header
  pub pairs : List Pair
  pub is_thread : IsThread r pairs
  pub orphan : LosesDirectory (volume_at r header pairs)

-- the global state is one of these
pub record HasState (r : Reading) (these : ℕ → Type 0) : Type 0 where
  pub pairs : List Pair
  pub is_thread : IsThread r pairs
  pub is : these (delta_of (thread (directories_at r pairs)))
