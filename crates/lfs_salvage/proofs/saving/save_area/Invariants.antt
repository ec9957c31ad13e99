use Rattle.std.proofs.Common.{[], drop, map, string_bytes}
use Rattle.std.specs.Prelude.{All}
use Rattle.lfs_host.specs.Scene.{KeepsFiles}
use Rattle.lfs_salvage.specs.Below.{IsNameBelow, MakesBelow}
use Rattle.lfs_salvage.proofs.AreaLemmas.{IsDoing, calls_plan}
use Rattle.lfs_salvage.proofs.saving.save_area.Given as goal

-- what is found at the first calls is saved, and the others are left
abbrev pub invariant-each : goal.invariant-each
invariant-each g l = record {
  doing : IsDoing (g.F.Known.known l.initial.folder).made (g.F.Known.known l.folder).made l.initial.salvage.unsaved.items
      l.salvage.unsaved.items
      (calls_plan (g.B.Blocks.disk l.disk) l.base l.area l.number l.call (map (λ f. string_bytes f) l.folders.items) l.salvage.uses.items
      (drop l.call l.area.found.items))
      (calls_plan (g.B.Blocks.disk l.disk) l.base l.area l.number 0 [] l.initial.salvage.uses.items l.area.found.items);
  names : All (λ f. IsNameBelow l.base (string_bytes f)) l.folders.items;
  below : MakesBelow l.base (g.F.Known.known l.initial.folder).made (g.F.Known.known l.folder).made;
  kept : KeepsFiles (g.F.Known.known l.initial.folder) (g.F.Known.known l.folder);
}
