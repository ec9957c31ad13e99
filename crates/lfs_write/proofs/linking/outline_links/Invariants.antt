-- What was added and the links from the directory on are all links.
use Rattle.std.proofs.Common.{◌≡◌, ◌∷◌, ◌++◌, drop}
use Rattle.lfs_fs.specs.Thread.{links}
use Rattle.lfs_write.proofs.linking.outline_links.Given as goal

abbrev pub invariant-each : goal.invariant-each
invariant-each l = l.all.items ++ links (l.directory ∷ drop l.next-index l.more) ≡ links l.outline.directories
