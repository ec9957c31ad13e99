-- The blocks behind are left for the parts behind.
use Rattle.std.proofs.Common.{◌≡◌, ◌*◌, ◌++◌, length, map, take, drop}
use Rattle.std.specs.Prelude.{flat_map, sum_by}
use Rattle.lfs_cut.specs.Chosen.{row_blocks, overflow_for}
use Rattle.lfs_cut.proofs.choosing.rows_of.Given as goal

abbrev pub invariant-each : goal.invariant-each
invariant-each l = record {
  so_far : map overflow_for l.rows.items ≡ take l.overflow-index l.overflows;
  in_order : flat_map row_blocks l.rows.items ++ l.left ≡ l.blocks;
  enough : sum_by (λ g. 2 * g.len) (drop l.overflow-index l.overflows) ≡ length l.left;
}
