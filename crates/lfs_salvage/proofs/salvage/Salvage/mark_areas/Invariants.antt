use Rattle.std.proofs.Common.{◌≡◌, ◌+◌, drop}
use Rattle.lfs_salvage.specs.PartsUsed.{areas_uses}
use Rattle.lfs_salvage.proofs.salvage.Salvage.mark_areas.Given as goal

-- what is left leads to what is wanted
abbrev pub invariant-each : goal.invariant-each
invariant-each l = record {
  left : areas_uses l.self.uses.items (l.first + l.number) (drop l.number l.areas) ≡ areas_uses l.fn.self.uses.items l.first l.areas;
  unsaved : l.self.unsaved ≡ l.fn.self.unsaved;
}
