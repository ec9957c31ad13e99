-- The survey of the pairs tells it.
use Rattle.std.proofs.Common.{◌≡◌, ◌∙◌, ap, sym, true, length, arith}
use Rattle.std.specs.Prelude.{nat_lt}
use Rattle.lfs_salvage.specs.Word.{has_other_names}
use Rattle.lfs_survey.specs.Damaged.{has_older}
use Rattle.lfs_open.proofs.salvaging.find.Goals as goal

pub returns : goal.returns
returns c =
    let many : length c.in_ok-survey.survey.areas.items ≡ c.len-has_lost.result =
    omega (arith, c.len-has_lost.ensures, c.in_ok-survey.survey.areas.ok) in (
      c.in_ok-survey.survey,
      c.in_ok-survey.ensures,
      ap (nat_lt 1) many,
      sym (c.has_older.ensures ∙ ap (has_older true c.args.disk.now.disk) c.deref-3.ensures.value),
      sym (c.has_other_names-has_other.ensures ∙ ap has_other_names c.deref-2.ensures.value),
    )
