use Rattle.std.proofs.Common.{sym, ◌∙◌}
use Rattle.std.proofs.lemmas.Bool.{false≢true}
use Rattle.lfs_block.proofs.AgreementLemmas.{agrees_new-decided, agrees_new-refuted, agrees_new-unfound}
use Rattle.lfs_block.proofs.patch.Patch.agrees_new.Goals as goal
use Rattle.lfs_block.proofs.patch.Patch.agrees_new.Goals.{then-has_geometry_of, else-has_geometry_of}

pub returns-then-finds : goal.returns-then-finds
returns-then-finds c =
    elim c.if-has_geometry_of.branch [
      | then-has_geometry_of w ↦
          agrees_new-decided c.args.self.now c.args.image.now.disk c.leaves_erased.result
          w.finds.ensures.growth (c.has_geometry_of.ensures.0 w.if-has_geometry_of.true)
          (w.finds.ensures.found.0 (sym w.value-is ∙ c.if-finds.true)) c.leaves_erased.ensures
      | else-has_geometry_of w ↦ absurd (false≢true (sym w.if-has_geometry_of.false ∙ sym w.value-is ∙ c.if-finds.true))
    ]

pub returns-else-finds : goal.returns-else-finds
returns-else-finds c =
    elim c.if-has_geometry_of.branch [
      | then-has_geometry_of w ↦
          agrees_new-unfound c.args.self.now c.args.image.now.disk w.finds.result c.if-has_geometry_of.value
          (sym w.value-is ∙ c.if-finds.false) w.finds.ensures.found c.if-finds.false
      | else-has_geometry_of w ↦
          agrees_new-refuted c.args.self.now c.args.image.now.disk c.has_geometry_of.result c.if-has_geometry_of.value w.if-has_geometry_of.false c.has_geometry_of.ensures
          c.if-finds.false
    ]
