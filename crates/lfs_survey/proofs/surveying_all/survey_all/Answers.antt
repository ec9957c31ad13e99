-- The root's area, and those behind the tails of one area after another.
use Rattle.std.proofs.Common.{◌≡◌, ◌<◌, ◌≤◌, Bool, List, [], ◌∷◌, ◌++◌, false, length, replicate, ap, sym, ◌∙◌, arith, subst}
use Rattle.std.proofs.lemmas.List.{with_items_is}
use Rattle.std.proofs.lemmas.Result.{err_from_is_err_and}
use Rattle.lfs_block.specs.Disk.{Disk}
use Rattle.lfs_meta.specs.Body.{Pair}
use Rattle.lfs_survey.specs.Survey.{AddsAreas, area_tails, unlooked}
use Rattle.lfs_survey.specs.declared.area.Area.{Area}
use Rattle.lfs_survey.proofs.SurveyLemmas.{IsSurveying, surveying_all, surveying_begin, surveying_more}
use Rattle.lfs_survey.proofs.surveying_all.survey_all.Goals as goal

pub areas-init : goal.areas-init
areas-init g c =
    let d : Disk = g.B.Blocks.disk c.args.blocks.now in
    let area : Area = c.in_ok-survey_from.field-0 in
    let filled : c.in_ok-looked.looked.items ≡ replicate c.count.result false = c.in_ok-looked.ensures.items_if_clones_equal (λ y same. same) in
    let counted : replicate c.count.result false ≡ unlooked d = ap (λ n. replicate n false) c.count.ensures in
    let none : c.as_mut_slice-table.result.now ≡ unlooked d = cc (c.as_mut_slice-table.ensures.value, filled, counted) in
    let empty : c.new-areas.result.items ++ area ∷ [] ≡ area ∷ [] = ap (λ (xs : List Area). xs ++ area ∷ []) c.new-areas.ensures.items in
    let one : c.push.new.self.items ≡ area ∷ [] = cc (c.in_ok-push.ensures.items, empty) in
    surveying_begin d c.as_mut_slice-table.result.now c.survey_from.new.looked c.push.new.self.items area none
    c.in_ok-survey_from.ensures.area c.in_ok-survey_from.ensures.looked one

pub areas-preserved : goal.areas-preserved
areas-preserved g c =
    let d : Disk = g.B.Blocks.disk c.args.blocks.now in
    let within : c.areas.next < length c.areas.areas.items = omega arith in
    let tails : c.deref.result.now ≡ area_tails c.index.result.now = c.deref.ensures.value ∙ c.in_ok-tails.ensures in
    surveying_more d c.areas.table c.add_areas.new.looked c.areas.areas.items c.add_areas.new.areas.items c.areas.next c.index.result.now
    c.areas.invariant within c.index.ensures
    (subst (λ (ps : List Pair). AddsAreas d c.areas.table c.add_areas.new.looked c.areas.areas.items c.add_areas.new.areas.items ps) tails
    c.in_ok-add_areas.ensures)

pub returns : goal.returns
returns g c =
    let d : Disk = g.B.Blocks.disk c.args.blocks.now in
    let count = c.count.ensures in
    let first = c.in_ok-looked.ensures.len in
    let long : length c.areas.table ≡ c.in_ok-looked.looked.len = omega arith in
    let done : length c.areas.areas.items ≤ c.areas.next = omega arith in
    surveying_all d _ c.areas.next
    (subst (λ (t : List Bool). IsSurveying d t c.areas.areas.items c.areas.next)
    (sym (with_items_is c.in_ok-looked.looked c.areas.table long)) c.areas.invariant) done

pub returns-in_err-looked : goal.returns-in_err-looked
returns-in_err-looked g c = rw (err_from_is_err_and c.from_residual.result c.from_residual.ensures.1).1 tt

pub returns-in_err-survey_from : goal.returns-in_err-survey_from
returns-in_err-survey_from g c = rw (err_from_is_err_and c.from_residual-in_err-survey_from.result c.from_residual-in_err-survey_from.ensures.1).1 tt

pub returns-in_err-push : goal.returns-in_err-push
returns-in_err-push g c = rw (err_from_is_err_and c.from_residual-in_err-push.result c.from_residual-in_err-push.ensures.1).1 tt

pub returns-in_err-tails : goal.returns-in_err-tails
returns-in_err-tails g c = rw (err_from_is_err_and c.from_residual-in_err-tails.result c.from_residual-in_err-tails.ensures.1).1 tt

pub returns-in_err-add_areas : goal.returns-in_err-add_areas
returns-in_err-add_areas g c = rw (err_from_is_err_and c.from_residual-in_err-add_areas.result c.from_residual-in_err-add_areas.ensures.1).1 tt
