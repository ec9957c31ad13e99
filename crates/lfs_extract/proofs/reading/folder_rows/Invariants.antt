use Rattle.std.proofs.Common.{◌-◌, map, reverse, string_bytes, length}
use Rattle.lfs_extract.specs.declared.walking.TheConstants.{MOST_BYTES, MOST_ROWS}
use Rattle.lfs_host.specs.Scene.{KeepsAll}
use Rattle.lfs_extract.specs.FolderWalk.{IsFolderWalk}
use Rattle.lfs_extract.proofs.reading.folder_rows.Given as goal

abbrev pub invariant-loop-name : goal.invariant-loop-name
invariant-loop-name g l = record {
  walking : IsFolderWalk MOST_BYTES (g.H.Known.known l.fn.host).tree l.dir l.walk.rows.items (map (λ s. string_bytes s) (reverse l.walk.waiting.items));
  kept : KeepsAll (g.H.Known.known l.fn.host) (g.H.Known.known l.host);
}

abbrev pub decreases-loop-name : goal.decreases-loop-name
decreases-loop-name g l = MOST_ROWS - length l.walk.rows.items
