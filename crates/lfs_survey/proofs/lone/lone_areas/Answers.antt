-- First from the unnamed blocks on, and then from those that are left, of which none stays open.
use Rattle.std.proofs.Common.{◌≡◌, List, false, ◌∙◌, subst}
use Rattle.std.specs.Prelude.{All}
use Rattle.std.proofs.lemmas.Result.{err_from_is_err_and}
use Rattle.lfs_block.specs.Disk.{Disk}
use Rattle.lfs_meta.specs.Body.{Pair}
use Rattle.lfs_survey.specs.Looking.{is_open}
use Rattle.lfs_survey.specs.Lone.{lone_pairs}
use Rattle.lfs_survey.proofs.AlongLemmas.{along_closed}
use Rattle.lfs_survey.proofs.LoneLemmas.{none_left}
use Rattle.lfs_survey.proofs.LookingLemmas.{grows_then}
use Rattle.lfs_survey.proofs.lone.lone_areas.Goals as goal

pub returns-clause-complete : goal.returns-clause-complete
returns-clause-complete g c =
    let d : Disk = g.B.Blocks.disk c.args.blocks.now in
    let after = c.areas_along-2.new.looked in
    let lone : c.deref-4.result.now ≡ lone_pairs d c.args.looked.now d.count = c.deref-4.ensures.value ∙ c.in_ok-lone.ensures.pairs in
    none_left d c.args.looked.now after
    (grows_then c.args.looked.now c.areas_along.new.looked after c.in_ok-areas.ensures.grows c.in_ok-left.ensures.grows)
    (subst (λ (ps : List Pair). All (λ p. is_open after p ≡ false) ps) lone
    (along_closed d c.areas_along.new.looked after c.deref-4.result.now c.in_ok-left.left.items c.in_ok-left.ensures.areas))

pub returns-in_err-named-clause-areas : goal.returns-in_err-named-clause-areas
returns-in_err-named-clause-areas g c = rw (err_from_is_err_and c.from_residual.result c.from_residual.ensures.1).1 tt

pub returns-in_err-named-clause-complete : goal.returns-in_err-named-clause-complete
returns-in_err-named-clause-complete g c = rw (err_from_is_err_and c.from_residual.result c.from_residual.ensures.1).1 tt

pub returns-in_err-lone-clause-areas : goal.returns-in_err-lone-clause-areas
returns-in_err-lone-clause-areas g c = rw (err_from_is_err_and c.from_residual-in_err-lone.result c.from_residual-in_err-lone.ensures.1).1 tt

pub returns-in_err-lone-clause-complete : goal.returns-in_err-lone-clause-complete
returns-in_err-lone-clause-complete g c = rw (err_from_is_err_and c.from_residual-in_err-lone.result c.from_residual-in_err-lone.ensures.1).1 tt

pub returns-in_err-unnamed-clause-areas : goal.returns-in_err-unnamed-clause-areas
returns-in_err-unnamed-clause-areas g c = rw (err_from_is_err_and c.from_residual-in_err-unnamed.result c.from_residual-in_err-unnamed.ensures.1).1 tt

pub returns-in_err-unnamed-clause-complete : goal.returns-in_err-unnamed-clause-complete
returns-in_err-unnamed-clause-complete g c = rw (err_from_is_err_and c.from_residual-in_err-unnamed.result c.from_residual-in_err-unnamed.ensures.1).1 tt

pub returns-in_err-areas-clause-areas : goal.returns-in_err-areas-clause-areas
returns-in_err-areas-clause-areas g c = rw (err_from_is_err_and c.from_residual-in_err-areas.result c.from_residual-in_err-areas.ensures.1).1 tt

pub returns-in_err-areas-clause-complete : goal.returns-in_err-areas-clause-complete
returns-in_err-areas-clause-complete g c = rw (err_from_is_err_and c.from_residual-in_err-areas.result c.from_residual-in_err-areas.ensures.1).1 tt

pub returns-in_err-left-clause-areas : goal.returns-in_err-left-clause-areas
returns-in_err-left-clause-areas g c = rw (err_from_is_err_and c.from_residual-in_err-left.result c.from_residual-in_err-left.ensures.1).1 tt

pub returns-in_err-left-clause-complete : goal.returns-in_err-left-clause-complete
returns-in_err-left-clause-complete g c = rw (err_from_is_err_and c.from_residual-in_err-left.result c.from_residual-in_err-left.ensures.1).1 tt

pub returns-in_err-append-clause-areas : goal.returns-in_err-append-clause-areas
returns-in_err-append-clause-areas g c = rw (err_from_is_err_and c.from_residual-in_err-append.result c.from_residual-in_err-append.ensures.1).1 tt

pub returns-in_err-append-clause-complete : goal.returns-in_err-append-clause-complete
returns-in_err-append-clause-complete g c = rw (err_from_is_err_and c.from_residual-in_err-append.result c.from_residual-in_err-append.ensures.1).1 tt
