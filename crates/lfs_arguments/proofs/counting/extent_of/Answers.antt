use Rattle.std.proofs.Common.{rules, ◌≡◌, ◌∙◌, codes, inl, inr, sym, true}
use Rattle.clap.specs.Words.{found_of, rows_of}
use Rattle.clap.proofs.WalkLemmas.{first_value-rows}
use Rattle.lfs_arguments.specs.Words.{is_flagged}
use Rattle.lfs_arguments.proofs.counting.extent_of.Goals as goal

pub returns-in-None-None-clause-extent : goal.returns-in-None-None-clause-extent
returns-in-None-None-clause-extent c =
    let options = found_of c.args.options.now in
    let least : is_flagged (codes "least") (rows_of options) ≡ true = search rules in (
      least,
      sym (c.in-None-None.ensures ∙ first_value-rows options (codes "count")),
      sym (c.in-None-None.ensures' ∙ first_value-rows options (codes "size")),
    )

pub returns-in-None-Some-clause-refused : goal.returns-in-None-Some-clause-refused
returns-in-None-Some-clause-refused c =
    let options = found_of c.args.options.now in
    let least : is_flagged (codes "least") (rows_of options) ≡ true = search rules in
    let some = sym (c.in-None-Some.ensures' ∙ first_value-rows options (codes "size")) in
    inr (inr (least, c.twice.ensures.twice, inr (c.in-None-Some.field-0-1.now, some)))

pub returns-in-Some-default-clause-refused : goal.returns-in-Some-default-clause-refused
returns-in-Some-default-clause-refused c =
    let options = found_of c.args.options.now in
    let least : is_flagged (codes "least") (rows_of options) ≡ true = search rules in
    let some = sym (c.in-Some-default.ensures ∙ first_value-rows options (codes "count")) in
    inr (inr (least, c.twice-in-Some-default.ensures.twice, inl (c.in-Some-default.field-0-0.now, some)))
