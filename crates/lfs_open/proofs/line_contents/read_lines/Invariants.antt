-- The lines so far are read.
use Rattle.std.proofs.Common.{◌<◌, drop, length}
use Rattle.std.specs.Prelude.{All}
use Rattle.lfs_host.specs.Scene.{KeepsAll}
use Rattle.lfs_open.specs.LineContents.{AreFilesRead, contents_by}
use Rattle.lfs_open.proofs.LineLemmas.{AreReadTo}
use Rattle.lfs_open.proofs.line_contents.read_lines.Given as goal

abbrev pub invariant-each : goal.invariant-each
invariant-each g l =
    let files = (g.H.Known.known l.fn.host).files in
    record {
      read : AreReadTo files l.lines (drop l.line-index l.lines) (contents_by l.known.read.items l.places.items);
      within : All (λ k. k < length l.known.read.items) l.places.items;
      known : AreFilesRead files l.known;
      kept : KeepsAll (g.H.Known.known l.fn.host) (g.H.Known.known l.host);
    }
