-- Part by part.
use Rattle.std.proofs.Common.{ap, sym, ◌∙◌, drop, ◌+◌, List}
use Rattle.std.proofs.lemmas.List.{at_drop_all}
use Rattle.lfs_salvage.specs.PartsUsed.{parts_uses}
use Rattle.lfs_salvage.specs.declared.block_use.BlockUse.{BlockUse}
use Rattle.lfs_salvage.proofs.PartLemmas.{parts_more}
use Rattle.lfs_salvage.proofs.salvage.Salvage.mark_parts.Goals as goal

pub each-preserved : goal.each-preserved
each-preserved c = record {
  left = ap (λ (t : List BlockUse). parts_uses t c.args.area (c.each.call + 1) (drop (c.each.call + 1) c.args.found.now)) c.mark_part.ensures.uses
      ∙ sym (parts_more c.each.self.uses.items c.args.area c.each.call c.args.found.now
      c.index-found-call.result c.each-test.true c.index-found-call.is) ∙ c.each.invariant.left;
  unsaved = c.mark_part.ensures.unsaved ∙ c.each.invariant.unsaved;
}

pub returns-clause-uses : goal.returns-clause-uses
returns-clause-uses c =
    sym (at_drop_all (parts_uses c.each.self.uses.items c.args.area c.each.call) c.args.found.now c.each.call c.each-test.false)
    ∙ c.each.invariant.left
