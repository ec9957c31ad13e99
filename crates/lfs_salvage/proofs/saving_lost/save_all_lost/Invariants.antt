use Rattle.std.proofs.Common.{◌≡◌, ◌+◌, drop}
use Rattle.lfs_host.specs.Scene.{KeepsFiles}
use Rattle.lfs_salvage.specs.AllMade.{front_behind_all}
use Rattle.lfs_salvage.specs.Below.{MakesBelow}
use Rattle.lfs_salvage.proofs.AreaLemmas.{IsDoing}
use Rattle.lfs_salvage.proofs.LostLemmas.{lost_plan}
use Rattle.lfs_salvage.proofs.saving_lost.save_all_lost.Given as goal

-- the first areas are saved, and the others are left
abbrev pub invariant-each : goal.invariant-each
invariant-each g l = record {
  doing : IsDoing (g.F.Known.known l.initial.folder).made (g.F.Known.known l.folder).made l.initial.salvage.unsaved.items
      l.salvage.unsaved.items
      (lost_plan (g.B.Blocks.disk l.disk) l.dir l.lost l.front (l.first + l.number) l.salvage.uses.items (drop l.number l.areas))
      (lost_plan (g.B.Blocks.disk l.disk) l.dir l.lost l.initial.front l.first l.initial.salvage.uses.items l.areas);
  front : front_behind_all l.front (drop l.number l.areas) ≡ front_behind_all l.initial.front l.areas;
  below : MakesBelow l.dir (g.F.Known.known l.initial.folder).made (g.F.Known.known l.folder).made;
  kept : KeepsFiles (g.F.Known.known l.initial.folder) (g.F.Known.known l.folder);
}
