-- The first block is past the table's end, or the second.
use Rattle.std.proofs.Common.{inl, inr, sym, ◌∙◌}
use Rattle.std.proofs.lemmas.Bool.{leb-true}
use Rattle.lfs_survey.proofs.looking.turned_away.Goals as goal
use Rattle.lfs_survey.proofs.looking.turned_away.Goals.{then-pair-len, else-pair-len}

pub returns-then-pair-len-2 : goal.returns-then-pair-len-2
returns-then-pair-len-2 c = elim c.if-pair-len.branch [
  | then-pair-len w ↦ inl w.if-pair-len.true
  | else-pair-len w ↦ inr (leb-true _ _ (sym w.value-is ∙ c.if-pair-len-2.true))
]
