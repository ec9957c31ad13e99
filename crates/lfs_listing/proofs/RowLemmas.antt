-- A listing that goes out row by row.
use Rattle.std.proofs.Common.{◌≡◌, ℕ, List, ◌∷◌, ◌++◌, Option, sym, subst}
use Rattle.lfs_fs.specs.Path.{Path}
use Rattle.lfs_fs.specs.Listed.{Listed, path_after, row_after, rows_after}
use Rattle.lfs_fs.specs.Row.{Row}
use Rattle.lfs_listing.specs.Buffer.{SendsFront}
use Rattle.lfs_listing.specs.Below.{lines_at, rows_at}
use Rattle.lfs_listing.proofs.BufferLemmas.{IsUnderWay, more_waits, front_goes}

-- the lines of one more row wait
pub row_waits : (show : Row → List ℕ) (at : Path) (old new : Option (List ℕ)) (q : Path) (left later : List Listed) (x : Listed) (waits longer complete : List ℕ)
    → IsUnderWay old new waits (rows_at show at (rows_after q left)) complete → left ≡ x ∷ later → longer ≡ waits ++ lines_at show at (row_after q x)
    → IsUnderWay old new longer (rows_at show at (rows_after (path_after q x.depth x.entry.name) later)) complete
row_waits show at old new q left later x waits longer complete h first lines =
    more_waits old new waits (lines_at show at (row_after q x)) (rows_at show at (rows_after (path_after q x.depth x.entry.name) later)) longer complete
    (subst (λ (xs : List Listed). IsUnderWay old new waits (rows_at show at (rows_after q xs)) complete) first h) lines

-- and a beginning of what waits goes out
pub row_goes : (show : Row → List ℕ) (at : Path) (old mid new : Option (List ℕ)) (q next : Path) (left later : List Listed) (x : Listed) (waits longer after complete : List ℕ)
    → IsUnderWay old mid waits (rows_at show at (rows_after q left)) complete → left ≡ x ∷ later → longer ≡ waits ++ lines_at show at (row_after q x)
    → next ≡ path_after q x.depth x.entry.name → SendsFront mid new longer after
    → IsUnderWay old new after (rows_at show at (rows_after next later)) complete
row_goes show at old mid new q next left later x waits longer after complete h first lines path front =
    subst (λ (p : Path). IsUnderWay old new after (rows_at show at (rows_after p later)) complete) (sym path)
    (front_goes old mid new longer after (rows_at show at (rows_after (path_after q x.depth x.entry.name) later)) complete
    (row_waits show at old mid q left later x waits longer complete h first lines) front)
