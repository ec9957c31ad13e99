-- The areas of the pairs that are begun with, and those behind the tails of one area after another.
use Rattle.std.proofs.Common.{◌≡◌, ◌<◌, List, length, ◌∙◌, arith, subst}
use Rattle.std.proofs.lemmas.Result.{err_from_is_err_and}
use Rattle.lfs_block.specs.Disk.{Disk}
use Rattle.lfs_meta.specs.Body.{Pair}
use Rattle.lfs_survey.specs.Survey.{AddsAreas, area_tails}
use Rattle.lfs_survey.specs.declared.area.Area.{Area}
use Rattle.lfs_survey.proofs.AlongLemmas.{along_all, along_begin, along_more}
use Rattle.lfs_survey.proofs.lone.areas_along.Goals as goal

pub areas-init : goal.areas-init
areas-init g c =
    let d : Disk = g.B.Blocks.disk c.args.blocks.now in
    along_begin d c.args.looked.now c.add_areas.new.looked c.args.starts.now c.add_areas.new.areas.items
    (subst (λ (old : List Area). AddsAreas d c.args.looked.now c.add_areas.new.looked old c.add_areas.new.areas.items c.args.starts.now)
    c.new-areas.ensures.items c.in_ok-add_areas.ensures)

pub areas-preserved : goal.areas-preserved
areas-preserved g c =
    let d : Disk = g.B.Blocks.disk c.args.blocks.now in
    let within : c.areas.next < length c.areas.areas.items = omega arith in
    let tails : c.deref.result.now ≡ area_tails c.index.result.now = c.deref.ensures.value ∙ c.in_ok-tails.ensures in
    along_more d c.args.looked.now c.areas.looked c.add_areas-in-areas.new.looked c.args.starts.now c.areas.areas.items
    c.add_areas-in-areas.new.areas.items c.areas.next c.index.result.now c.areas.invariant within c.index.ensures
    (subst (λ (ps : List Pair). AddsAreas d c.areas.looked c.add_areas-in-areas.new.looked c.areas.areas.items
    c.add_areas-in-areas.new.areas.items ps) tails c.in_ok-add_areas-2.ensures)

pub returns-clause-areas : goal.returns-clause-areas
returns-clause-areas g c =
    along_all (g.B.Blocks.disk c.args.blocks.now) c.args.looked.now c.areas.looked c.args.starts.now c.areas.areas.items c.areas.next
    c.areas.invariant (let len = c.len.ensures in let test = c.areas-test.false in omega arith)

pub returns-in_err-add_areas-clause-areas : goal.returns-in_err-add_areas-clause-areas
returns-in_err-add_areas-clause-areas g c = rw (err_from_is_err_and c.from_residual.result c.from_residual.ensures.1).1 tt

pub returns-in_err-add_areas-clause-len : goal.returns-in_err-add_areas-clause-len
returns-in_err-add_areas-clause-len g c = rw (err_from_is_err_and c.from_residual.result c.from_residual.ensures.1).1 tt

pub returns-in_err-add_areas-clause-grows : goal.returns-in_err-add_areas-clause-grows
returns-in_err-add_areas-clause-grows g c = rw (err_from_is_err_and c.from_residual.result c.from_residual.ensures.1).1 tt

pub returns-in_err-tails-clause-areas : goal.returns-in_err-tails-clause-areas
returns-in_err-tails-clause-areas g c = rw (err_from_is_err_and c.from_residual-in_err-tails.result c.from_residual-in_err-tails.ensures.1).1 tt

pub returns-in_err-tails-clause-len : goal.returns-in_err-tails-clause-len
returns-in_err-tails-clause-len g c = rw (err_from_is_err_and c.from_residual-in_err-tails.result c.from_residual-in_err-tails.ensures.1).1 tt

pub returns-in_err-tails-clause-grows : goal.returns-in_err-tails-clause-grows
returns-in_err-tails-clause-grows g c = rw (err_from_is_err_and c.from_residual-in_err-tails.result c.from_residual-in_err-tails.ensures.1).1 tt

pub returns-in_err-add_areas-2-clause-areas : goal.returns-in_err-add_areas-2-clause-areas
returns-in_err-add_areas-2-clause-areas g c = rw (err_from_is_err_and c.from_residual-in_err-add_areas-2.result c.from_residual-in_err-add_areas-2.ensures.1).1 tt

pub returns-in_err-add_areas-2-clause-len : goal.returns-in_err-add_areas-2-clause-len
returns-in_err-add_areas-2-clause-len g c = rw (err_from_is_err_and c.from_residual-in_err-add_areas-2.result c.from_residual-in_err-add_areas-2.ensures.1).1 tt

pub returns-in_err-add_areas-2-clause-grows : goal.returns-in_err-add_areas-2-clause-grows
returns-in_err-add_areas-2-clause-grows g c = rw (err_from_is_err_and c.from_residual-in_err-add_areas-2.result c.from_residual-in_err-add_areas-2.ensures.1).1 tt
