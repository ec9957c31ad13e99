-- Rows that can be read, one after another.
use Rattle.std.proofs.Common.{◌≡◌, List, ◌∷◌, subst}
use Rattle.lfs_block.specs.Disk.{Disk}
use Rattle.lfs_fs.specs.Listed.{Listed, path_after, rows_after}
use Rattle.lfs_fs.specs.Path.{Path}
use Rattle.lfs_listing.specs.Comparing.{AreComplete, IsReadable}

-- the next one can be read, and those behind it can
pub next_complete : (d : Disk) (q : Path) (left later : List Listed) (x : Listed) → AreComplete d (rows_after q left) → left ≡ x ∷ later
    → IsReadable d x.entry.body × AreComplete d (rows_after (path_after q x.depth x.entry.name) later)
next_complete d q left later x are first = subst (λ (xs : List Listed). AreComplete d (rows_after q xs)) first are
