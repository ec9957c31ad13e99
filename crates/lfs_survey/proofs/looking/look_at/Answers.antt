-- A pair that isn't open is turned away, and another one's blocks are marked.
use Rattle.std.proofs.Common.{ℕ, sym, ◌∙◌, subst}
use Rattle.lfs_survey.specs.Looking.{IsTurned}
use Rattle.lfs_survey.proofs.LookingLemmas.{look_fewer, turned_refused}
use Rattle.lfs_survey.proofs.looking.look_at.Goals as goal

pub returns-then-not-is_open-clause-found : goal.returns-then-not-is_open-clause-found
returns-then-not-is_open-clause-found g c =
    turned_refused (g.B.Blocks.disk c.args.blocks.now) c.args.looked.now c.args.pair c.turned_away.result
    (sym c.is_open.ensures ∙ c.if-not-is_open.true)
    (subst (λ (count : ℕ). IsTurned count c.args.pair c.turned_away.result) c.requires.len c.turned_away.ensures)

pub returns-clause-fewer : goal.returns-clause-fewer
returns-clause-fewer g c =
    look_fewer c.args.looked.now c.mark_pair.new.looked c.args.pair (sym c.is_open.ensures ∙ c.if-not-is_open.false) c.mark_pair.ensures
