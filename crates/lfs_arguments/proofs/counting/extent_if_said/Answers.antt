use Rattle.std.proofs.Common.{rules, ◌≡◌, inl, inr, true}
use Rattle.clap.specs.Words.{found_of, rows_of}
use Rattle.lfs_arguments.specs.Words.{is_extent_said}
use Rattle.lfs_arguments.proofs.Handed.{handed_on}
use Rattle.lfs_arguments.proofs.counting.extent_if_said.Goals as goal

pub returns-in_err-extent_of-clause-refused : goal.returns-in_err-extent_of-clause-refused
returns-in_err-extent_of-clause-refused c =
    let on = c.from_residual in
    let said : is_extent_said (rows_of (found_of c.args.options.now)) ≡ true = search rules in
    handed_on on.result c.in_err-extent_of.field-0.0 _ on.ensures.1
    (elim c.in_err-extent_of.ensures.refused [
      | inl unsaid ↦ inl unsaid
      | inr usage_error ↦ inr (said, usage_error)
    ])

pub returns-in_err-extent_of-clause-unsaid : goal.returns-in_err-extent_of-clause-unsaid
returns-in_err-extent_of-clause-unsaid c =
    let on = c.from_residual in
    handed_on on.result c.in_err-extent_of.field-0.0 _ on.ensures.1
    (λ is rule named number says. c.in_err-extent_of.ensures.unsaid is rule named number says)
