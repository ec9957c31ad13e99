-- The entries so far stand behind the others.
use Rattle.std.proofs.Common.{◌≡◌, ◌++◌, map, take}
use Rattle.lfs_fs.specs.AsStored.{stored_entry}
use Rattle.lfs_write.proofs.storing.add_stored.Given as goal

abbrev pub invariant-each : goal.invariant-each
invariant-each l = l.stored.items ≡ l.initial.stored.items ++ map stored_entry (take l.entry-index l.entries)
