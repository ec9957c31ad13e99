-- A file that is put is judged alike whatever its bound, and an attribute that is set whatever its kind.
use Rattle.std.proofs.Common.{arith}
use Rattle.std.proofs.lemmas.Grind.{common_steps}
use Rattle.std.proofs.lemmas.Result.{err_from_is_err_and}
use Rattle.lfs_draft.proofs.judging.judge.Goals as goal

pub returns-in_err-judge_set_attr-in-SetAttr-clause-refused : goal.returns-in_err-judge_set_attr-in-SetAttr-clause-refused
returns-in_err-judge_set_attr-in-SetAttr-clause-refused c =
    let p = err_from_is_err_and
    c.from_residual-in_err-judge_set_attr-in-SetAttr.result c.from_residual-in_err-judge_set_attr-in-SetAttr.ensures.1 in
    rw (p.1, p.2) (grind (arith, common_steps, c.in_err-judge_set_attr-in-SetAttr.ensures.refused c.in-SetAttr.kind))

pub returns-in_ok-judge_set_attr-in-SetAttr-clause-unrefused : goal.returns-in_ok-judge_set_attr-in-SetAttr-clause-unrefused
returns-in_ok-judge_set_attr-in-SetAttr-clause-unrefused c = grind (
  arith,
  common_steps,
  c.in_ok-judge_set_attr-in-SetAttr.ensures.unrefused c.in-SetAttr.kind,
)

pub returns-in_err-judge_put-in-Put-clause-refused : goal.returns-in_err-judge_put-in-Put-clause-refused
returns-in_err-judge_put-in-Put-clause-refused c =
    let p = err_from_is_err_and c.from_residual-in_err-judge_put-in-Put.result c.from_residual-in_err-judge_put-in-Put.ensures.1 in
    rw (p.1, p.2) (grind (arith, common_steps, c.in_err-judge_put-in-Put.ensures.refused c.in-Put.most))

pub returns-in_ok-judge_put-in-Put-clause-unrefused : goal.returns-in_ok-judge_put-in-Put-clause-unrefused
returns-in_ok-judge_put-in-Put-clause-unrefused c = grind (
  arith,
  common_steps,
  c.in_ok-judge_put-in-Put.ensures.unrefused c.in-Put.most,
)
