use Rattle.std.proofs.Common.{◌≡◌, drop}
use Rattle.lfs_salvage.specs.Fate.{uses_by_chain}
use Rattle.lfs_salvage.proofs.salvage.Salvage.mark_chain.Given as goal

-- what is left leads to what is wanted
abbrev pub invariant-each : goal.invariant-each
invariant-each l = record {
  left : uses_by_chain l.self.uses.items (drop l.block-index l.blocks) ≡ uses_by_chain l.fn.self.uses.items l.blocks;
  unsaved : l.self.unsaved ≡ l.fn.self.unsaved;
}
