use Rattle.std.proofs.Common.{◌≡◌, ◌++◌, length}
use Rattle.std.specs.Prelude.{reverse}
use Rattle.lfs_fs.specs.Thread.{links_of}
use Rattle.lfs_fs.proofs.known_thread.push_directory.Given as goal

abbrev pub invariant-each : goal.invariant-each
invariant-each l = l.parts.items ++ reverse (links_of l.fn.directory.first l.more.items l.tail)
    ≡ l.fn.parts.items ++ reverse (links_of l.fn.directory.first l.fn.directory.more l.fn.tail)

abbrev pub decreases-each : goal.decreases-each
decreases-each l = length l.more.items
