-- The blocks in front are paired.
use Rattle.std.proofs.Common.{◌≡◌, ◌*◌, length, take}
use Rattle.std.specs.Prelude.{flat_map}
use Rattle.lfs_command.specs.Ordered.{pair_blocks}
use Rattle.lfs_cut.proofs.new_pairs.pairs_of.Given as goal

abbrev pub invariant-each : goal.invariant-each
invariant-each l = (length l.pairs.items ≡ l.at) × (flat_map pair_blocks l.pairs.items ≡ take (2 * l.at) l.blocks)
