-- What was added and the links from the part on are what was there and the links of the directory.
use Rattle.std.proofs.Common.{◌≡◌, ◌++◌, drop}
use Rattle.lfs_fs.specs.Thread.{links_of}
use Rattle.lfs_write.proofs.linking.push_links.Given as goal

abbrev pub invariant-each : goal.invariant-each
invariant-each l = l.links.items ++ links_of l.part (drop l.next-index l.directory.more) l.tail
    ≡ l.initial.links.items ++ links_of l.directory.first l.directory.more l.tail
