use Rattle.std.proofs.Common.{◌≡◌, drop}
use Rattle.lfs_salvage.specs.PartsUsed.{parts_uses}
use Rattle.lfs_salvage.proofs.salvage.Salvage.mark_parts.Given as goal

-- what is left leads to what is wanted
abbrev pub invariant-each : goal.invariant-each
invariant-each l = record {
  left : parts_uses l.self.uses.items l.area l.call (drop l.call l.found) ≡ parts_uses l.fn.self.uses.items l.area 0 l.found;
  unsaved : l.self.unsaved ≡ l.fn.self.unsaved;
}
