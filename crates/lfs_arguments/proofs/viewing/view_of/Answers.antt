use Rattle.std.proofs.Common.{◌∙◌, codes, sym}
use Rattle.clap.specs.Words.{found_of, rows_of}
use Rattle.clap.proofs.WalkLemmas.{first_value-rows}
use Rattle.lfs_arguments.proofs.Handed.{handed_on}
use Rattle.lfs_arguments.proofs.viewing.view_of.Goals as goal

pub returns-in_err-place_in-in-Some-clause-refused : goal.returns-in_err-place_in-in-Some-clause-refused
returns-in_err-place_in-in-Some-clause-refused c =
    let options = found_of c.args.options.now in
    let has = sym (c.in-Some.ensures ∙ first_value-rows options (codes "offset")) in
    handed_on c.from_residual.result c.in_err-place_in-in-Some.field-0.0 _ c.from_residual.ensures.1
    (c.in_err-place_in-in-Some.ensures.refused (rows_of options) has)

pub returns-in_ok-place_in-in-Some-clause-some : goal.returns-in_ok-place_in-in-Some-clause-some
returns-in_ok-place_in-in-Some-clause-some c =
    let options = found_of c.args.options.now in
    let has = sym (c.in-Some.ensures ∙ first_value-rows options (codes "offset")) in
    (c.said-by_device.ensures, (c.in-Some.text.now, has, c.in_ok-place_in-in-Some.ensures.some))

pub returns-in-None-clause-some : goal.returns-in-None-clause-some
returns-in-None-clause-some c =
    (c.said-by_device.ensures, sym (c.in-None.ensures ∙ first_value-rows (found_of c.args.options.now) (codes "offset")))
