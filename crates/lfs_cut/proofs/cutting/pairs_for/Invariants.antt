-- The first row is among those behind.
use Rattle.std.proofs.Common.{◌≡◌, drop}
use Rattle.lfs_cut.specs.Chosen.{chosen_for}
use Rattle.lfs_cut.proofs.cutting.pairs_for.Given as goal

abbrev pub invariant-each : goal.invariant-each
invariant-each l = chosen_for (drop l.row-index l.rows) l.part ≡ chosen_for l.rows l.part
