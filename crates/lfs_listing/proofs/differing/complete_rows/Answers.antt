use Rattle.std.proofs.Common.{List, subst, sym}
use Rattle.lfs_fs.specs.Row.{Row}
use Rattle.lfs_listing.specs.Comparing.{AreComplete}
use Rattle.lfs_listing.proofs.CompleteLemmas.{rows_are_complete}
use Rattle.lfs_listing.proofs.differing.complete_rows.Goals as goal

pub returns-clause-complete : goal.returns-clause-complete
returns-clause-complete g c =
    subst (λ (rows : List Row). AreComplete (g.B.Blocks.disk c.args.image.now.disk.now) rows) (sym c.rows.ensures)
    (rows_are_complete c.rows_show_the_tree.ensures (g.B.Blocks.disk c.args.image.now.disk.now) c.args.image.now.mounted.now
    c.size-size.ensures.disk c.requires)
