-- One pair after another.
use Rattle.std.proofs.lemmas.List.{get_or_default}
use Rattle.std.proofs.lemmas.Result.{err_from_is_err_and}
use Rattle.lfs_survey.proofs.SurveyLemmas.{adds_more, adds_nothing}
use Rattle.lfs_survey.proofs.surveying_all.add_areas.Goals as goal

pub each-init : goal.each-init
each-init g c = adds_nothing (g.B.Blocks.disk c.args.blocks.now) c.args.looked.now c.args.areas.now.items

pub each-preserved : goal.each-preserved
each-preserved g c =
    adds_more (g.B.Blocks.disk c.args.blocks.now) c.args.looked.now c.each.looked c.add_area.new.looked c.args.areas.now.items
    c.each.areas.items c.add_area.new.areas.items c.args.starts.now c.each.start-index _ c.each-test.true
    (get_or_default c.args.starts.now c.each.start-index _ _ c.each-test.true) c.each.invariant c.in_ok-add_area.ensures

pub returns-in_err-add_area : goal.returns-in_err-add_area
returns-in_err-add_area g c = rw (err_from_is_err_and c.from_residual.result c.from_residual.ensures.1).1 tt
