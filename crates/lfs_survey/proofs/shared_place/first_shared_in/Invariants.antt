use Rattle.std.proofs.Common.{◌≡◌, length, take}
use Rattle.lfs_fs.specs.Used.{Marks}
use Rattle.lfs_survey.specs.Shared.{uses_of}
use Rattle.lfs_survey.proofs.shared_place.first_shared_in.Given as goal

abbrev pub invariant-each : goal.invariant-each
invariant-each g l = record {
  marks : Marks l.table (λ b. uses_of (g.B.Blocks.disk l.blocks) l.fn.table l.survey.areas.items (take l.place-index l.places) b);
  len : length l.table ≡ length l.fn.table;
}
