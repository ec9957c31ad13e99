-- The pairs so far.
use Rattle.std.proofs.Common.{◌≡◌, List, length, take}
use Rattle.lfs_fs.specs.Gathering.{PairPart}
use Rattle.lfs_settle.specs.Reaching.{AreApart, AreListed, FlagsNamed}
use Rattle.lfs_settle.proofs.reached.flag_each.Given as goal

abbrev pub invariant-loop-pair : goal.invariant-loop-pair
invariant-loop-pair l = record {
  len : length l.reached.items ≡ length l.fn.reached.items;
  flags : (gs : List (List PairPart)) → AreListed gs l.table.entries → AreApart gs → length l.fn.reached.items ≡ length gs
      → FlagsNamed gs (take l.pair-index l.named) l.fn.reached.items l.reached.items l.fn.waiting.items l.waiting.items;
}
