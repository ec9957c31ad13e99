-- The parts after it are still to be looked at.
use Rattle.std.proofs.Common.{◌≡◌, ◌++◌, ◌<◌, length}
use Rattle.std.specs.Prelude.{All, not}
use Rattle.std.specs.List.{filter}
use Rattle.std.specs.Vec.Iter.{into_iter_items, into_iter_len}
use Rattle.lfs_fs.specs.Reading.{reading_of}
use Rattle.lfs_settle.specs.Settled.{is_held}
use Rattle.lfs_adopt.proofs.planning.changed.Given as goal

abbrev pub invariant-each : goal.invariant-each
invariant-each g l = record {
  counted : into_iter_len l.part-iterator ≡ length (into_iter_items l.part-iterator);
  first : All (λ p. p.0.0 < (g.B.Blocks.disk l.blocks).count) (into_iter_items l.part-iterator);
  second : All (λ p. p.0.1 < (g.B.Blocks.disk l.blocks).count) (into_iter_items l.part-iterator);
  left : filter (λ p. not (is_held (reading_of (g.B.Blocks.disk l.blocks)) p)) l.fn.parts.items
      ≡ l.changed.items ++ filter (λ p. not (is_held (reading_of (g.B.Blocks.disk l.blocks)) p)) (into_iter_items l.part-iterator);
}
