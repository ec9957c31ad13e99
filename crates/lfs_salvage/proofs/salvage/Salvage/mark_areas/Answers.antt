-- Area by area.
use Rattle.std.proofs.Common.{◌≡◌, ◌∙◌, ◌+◌, ap, arith, refl, sym, drop, List, ℕ}
use Rattle.std.proofs.lemmas.List.{at_drop_all}
use Rattle.lfs_salvage.specs.PartsUsed.{areas_uses, parts_uses}
use Rattle.lfs_salvage.specs.declared.block_use.BlockUse.{BlockUse}
use Rattle.lfs_salvage.proofs.LostLemmas.{marks_more}
use Rattle.lfs_survey.specs.declared.found.Found.{Found}
use Rattle.lfs_salvage.proofs.salvage.Salvage.mark_areas.Goals as goal

pub each-init : goal.each-init
each-init c =
    let none : c.args.first + 0 ≡ c.args.first = omega arith in
    record {
      left = ap (λ (n : ℕ). areas_uses c.args.self.now.uses.items n c.args.areas.now) none;
      unsaved = refl;
    }

pub each-preserved : goal.each-preserved
each-preserved c =
    let next : c.args.first + (c.each.number + 1) ≡ c.args.first + c.each.number + 1 = omega arith in
    record {
      left = ap (λ (n : ℕ). areas_uses c.mark_parts.new.self.uses.items n (drop (c.each.number + 1) c.args.areas.now)) next
          ∙ ap (λ (t : List BlockUse). areas_uses t (c.args.first + c.each.number + 1) (drop (c.each.number + 1) c.args.areas.now))
          (c.mark_parts.ensures.uses
          ∙ ap (λ (fs : List Found). parts_uses c.each.self.uses.items (c.args.first + c.each.number) 0 fs) c.deref.ensures.value)
          ∙ sym (marks_more c.each.self.uses.items (c.args.first + c.each.number) c.each.number c.args.areas.now c.index-areas-number.result
          c.each-test.true c.index-areas-number.is) ∙ c.each.invariant.left;
      unsaved = c.mark_parts.ensures.unsaved ∙ c.each.invariant.unsaved;
    }

pub returns-clause-uses : goal.returns-clause-uses
returns-clause-uses c =
    sym (at_drop_all (areas_uses c.each.self.uses.items (c.args.first + c.each.number)) c.args.areas.now c.each.number c.each-test.false)
    ∙ c.each.invariant.left
