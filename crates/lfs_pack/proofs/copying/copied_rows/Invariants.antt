use Rattle.std.proofs.Common.{map}
use Rattle.lfs_fs.specs.Limits.{most_held}
use Rattle.lfs_fs.specs.Listed.{rows_after, rows_listed}
use Rattle.lfs_pack.specs.RowText.{source_text}
use Rattle.lfs_pack.proofs.CopyingLemmas.{AreLeft}
use Rattle.lfs_pack.proofs.copying.copied_rows.Given as goal

-- the rows so far are copied, and the others are left
abbrev pub invariant-loop-row : goal.invariant-loop-row
invariant-loop-row g l =
    AreLeft (g.B.Blocks.disk l.disk) (map (source_text most_held) l.copied.items) (rows_after (map (λ n. n.now) l.path.items) l.row-iterator)
    (rows_listed l.fn.rows)
