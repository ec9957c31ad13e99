-- An image has the greatest count so far, and there is room in it for the changes so far.
use Rattle.std.proofs.Common.{take}
use Rattle.lfs_block.specs.Geometry.{IsGeometry}
use Rattle.lfs_session.specs.Known.{HasRoom}
use Rattle.lfs_session.proofs.reserving.reserve_for.Given as goal

abbrev pub invariant-loop-patch : goal.invariant-loop-patch
invariant-loop-patch l = record {
  geometry : IsGeometry l.image.disk.size l.greatest;
  room : HasRoom l.greatest (take l.patch-index l.patches);
}
