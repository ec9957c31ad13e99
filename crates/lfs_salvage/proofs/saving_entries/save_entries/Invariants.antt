use Rattle.std.proofs.Common.{List, ℕ, drop}
use Rattle.lfs_host.specs.Scene.{KeepsFiles}
use Rattle.lfs_salvage.specs.Below.{IsNameBelow, MakesBelow}
use Rattle.lfs_salvage.proofs.AreaLemmas.{IsDoing, entries_plan}
use Rattle.lfs_salvage.proofs.saving_entries.save_entries.Given as goal

-- the first entries are saved, and the others are left
abbrev pub invariant-each : goal.invariant-each
invariant-each g l = record {
  doing : IsDoing (g.F.Known.known l.initial.folder).made (g.F.Known.known l.folder).made l.initial.salvage.unsaved.items
      l.salvage.unsaved.items
      (entries_plan (g.B.Blocks.disk l.disk) l.above l.block l.salvage.uses.items l.area l.call l.index (drop l.index l.entries))
      (entries_plan (g.B.Blocks.disk l.disk) l.above l.block l.initial.salvage.uses.items l.area l.call 0 l.entries);
  below : (top : List ℕ) → IsNameBelow top l.above → MakesBelow top (g.F.Known.known l.initial.folder).made (g.F.Known.known l.folder).made;
  kept : KeepsFiles (g.F.Known.known l.initial.folder) (g.F.Known.known l.folder);
}
