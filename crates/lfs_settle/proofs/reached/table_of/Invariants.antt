-- The table of the directories so far.
use Rattle.std.proofs.Common.{◌≡◌, map, take}
use Rattle.lfs_settle.specs.Reaching.{AreListed}
use Rattle.lfs_settle.proofs.reached.table_of.Given as goal

abbrev pub invariant-loop-group : goal.invariant-loop-group
invariant-loop-group l = record {
  number : l.number ≡ l.group-index;
  listed : AreListed (take l.group-index (map (λ g. g.items) l.groups)) l.table.entries;
}
