-- A thread as it is walked along (own).
use Rattle.std.specs.Prelude.{ℕ, ◌≡◌, ◌≤◌, ◌++◌, Bool, List, length, Option, All}
use Rattle.std.specs.List.{AllByRecursion}
use Rattle.lfs_meta.specs.Body.{Pair}
use Rattle.lfs_meta.specs.Complete.{IsComplete}
use Rattle.lfs_fs.specs.Front.{IsFront, next_after, next_pair, pairs_name}
use Rattle.lfs_fs.specs.Gathering.{PairPart}
use Rattle.lfs_fs.specs.Reading.{Reading}
use Rattle.lfs_fs.specs.Used.{Marks, unmarked}
use Rattle.lfs_lower.specs.Joining.{parts_held}
use Rattle.lfs_lower.specs.OneSuperblock.{pairs_along}
use Rattle.lfs_settle.specs.InStep.{thread_pairs}

-- Parts are read of these pairs, the first of a thread, whose blocks are marked, and this pair may follow.
pub record AreWalked (r : Reading) (used : List Bool) (before : List Pair) (parts : List PairPart) (from : Option Pair) : Type 0 where
  pub n : ℕ
  pub len : length used ≡ r.count
  pub marks : Marks used (λ b. pairs_name b before)
  pub enough : unmarked used ≤ n
  pub left : before ++ pairs_along (next_pair r) r.count before n from ≡ thread_pairs r
  pub front : IsFront r before
  pub follows : next_after r before ≡ from
  pub parts_are : parts ≡ parts_held r before
  pub all_read : length parts ≡ length before
  pub complete : All (λ p. AllByRecursion IsComplete p.1.entries) parts
