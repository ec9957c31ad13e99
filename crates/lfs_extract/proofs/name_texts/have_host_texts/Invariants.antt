use Rattle.lfs_fs.specs.Path.{Path}
use Rattle.lfs_fs.specs.Listed.{rows_after, rows_listed}
use Rattle.lfs_listing.specs.Below.{names}
use Rattle.lfs_extract.specs.RowsBelow.{IsSharedPrefix, rows_below}
use Rattle.lfs_extract.proofs.NameLemmas.{IsJudgedOn}
use Rattle.lfs_extract.proofs.name_texts.have_host_texts.Given as goal

-- the names so far are texts
abbrev pub invariant-loop-row : goal.invariant-loop-row
invariant-loop-row l = (q : Path) × IsSharedPrefix (names l.at) q l.prefix
    × IsJudgedOn (names l.at) q (rows_below (names l.at) (rows_after q l.row-iterator)) (rows_below (names l.at) (rows_listed l.fn.rows))
