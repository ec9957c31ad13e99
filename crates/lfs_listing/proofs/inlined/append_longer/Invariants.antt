use Rattle.std.proofs.Common.{◌≡◌, ◌++◌, map}
use Rattle.lfs_fs.specs.Listed.{rows_after, rows_listed}
use Rattle.lfs_listing.specs.Inlined.{longer_text}
use Rattle.lfs_listing.proofs.inlined.append_longer.Given as goal

-- the lines of the rows so far stand there, and those of the rows that are left are to come
abbrev pub invariant-loop-row : goal.invariant-loop-row
invariant-loop-row l = l.text.items ++ longer_text l.fn.most (rows_after (map (λ n. n.now) l.path.items) l.row-iterator)
    ≡ l.initial.text.items ++ longer_text l.fn.most (rows_listed l.fn.rows)
