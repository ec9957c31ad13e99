use Rattle.std.proofs.Common.{◌≡◌, map}
use Rattle.std.specs.Prelude.{IfSome}
use Rattle.lfs_command.specs.PathMap.{below}
use Rattle.lfs_fs.specs.Listed.{rows_after, rows_listed}
use Rattle.lfs_fs.specs.Path.{Path}
use Rattle.lfs_host.specs.Scene.{KeepsFiles}
use Rattle.lfs_listing.specs.Below.{names}
use Rattle.lfs_extract.specs.RowsBelow.{IsSharedPrefix}
use Rattle.lfs_extract.proofs.MakingLemmas.{AreLeft}
use Rattle.lfs_extract.proofs.extracting.make_rows.Given as goal

-- the rows so far are made where they are at the path or below it, and the others are left
abbrev pub invariant-loop-row : goal.invariant-loop-row
invariant-loop-row g l = (path : Path) × record {
  prefix : IsSharedPrefix (names l.at) path l.prefix;
  rest : IfSome (below (names l.at) path) (λ r. r ≡ map (λ n. n.now) l.rest.items);
  left : AreLeft (g.F.Known.known l.initial.folder).made (g.F.Known.known l.folder).made (g.B.Blocks.disk l.disk) (names l.at) l.dir
      (rows_after path l.row-iterator) (rows_listed l.fn.rows);
  kept : KeepsFiles (g.F.Known.known l.initial.folder) (g.F.Known.known l.folder);
}
