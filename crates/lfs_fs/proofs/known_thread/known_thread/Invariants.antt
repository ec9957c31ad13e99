use Rattle.std.proofs.Common.{◌≡◌, ◌++◌, List, length}
use Rattle.std.specs.Prelude.{reverse}
use Rattle.lfs_fs.specs.Directory.{Directory}
use Rattle.lfs_fs.specs.Thread.{links, tail_to}
use Rattle.lfs_fs.proofs.known_thread.known_thread.Given as goal

abbrev pub invariant-each : goal.invariant-each
invariant-each l = record {
  behind : List Directory;
  all : l.fn.directories.items ≡ l.directories.items ++ behind;
  parts : l.parts.items ≡ reverse (links behind);
  tail : l.tail ≡ tail_to behind;
}

abbrev pub decreases-each : goal.decreases-each
decreases-each l = length l.directories.items
