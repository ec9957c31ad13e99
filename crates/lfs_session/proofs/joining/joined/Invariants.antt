use Rattle.std.proofs.Common.{◌≤◌, map, take}
use Rattle.lfs_command.specs.AskedFor.{asked_for}
use Rattle.lfs_history.specs.History.{IsMounted}
use Rattle.lfs_session.specs.Joining.{AreJoined}
use Rattle.lfs_session.specs.Known.{IsKnown}
use Rattle.lfs_session.proofs.joining.joined.Given as goal

-- the commands so far are carried out, and their patches are one
abbrev pub invariant-loop-at : goal.invariant-loop-at
invariant-loop-at l = record {
  joined : AreJoined l.fn.image.disk (map asked_for (take l.at l.commands)) l.joint l.image.disk;
  mounts : IsMounted l.image.disk;
  known : IsKnown l.image.disk l.known;
  most : l.fn.image.room ≤ l.image.room;
}
