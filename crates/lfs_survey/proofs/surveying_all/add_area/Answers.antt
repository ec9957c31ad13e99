-- An area is added where the pair is open.
use Rattle.std.proofs.Common.{sym, ◌∙◌}
use Rattle.lfs_survey.proofs.SurveyLemmas.{adds_none, adds_one}
use Rattle.lfs_survey.proofs.surveying_all.add_area.Goals as goal

pub returns-in_ok-push : goal.returns-in_ok-push
returns-in_ok-push g c =
    adds_one (g.B.Blocks.disk c.args.blocks.now) c.args.looked.now c.survey_from.new.looked c.args.areas.now.items c.push.new.self.items
    c.args.start c.in_ok-area.area (sym c.is_open.ensures ∙ c.if-is_open.true) c.in_ok-area.ensures.area c.in_ok-area.ensures.looked
    c.in_ok-push.ensures.items

pub returns-else-is_open : goal.returns-else-is_open
returns-else-is_open g c =
    adds_none (g.B.Blocks.disk c.args.blocks.now) c.args.looked.now c.args.areas.now.items c.args.start
    (sym c.is_open.ensures ∙ c.if-is_open.false)
