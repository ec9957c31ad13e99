-- The image mounts.
use Rattle.std.proofs.Common.{rules, inl, inr}
use Rattle.std.proofs.lemmas.Result.{IfOk-from_err}
use Rattle.lfs_session.proofs.KnownLemmas.{mounted_has_outline}
use Rattle.lfs_session.proofs.carried.carried_out.Goals as goal

pub take_known-requires-clause-there : goal.take_known-requires-clause-there
take_known-requires-clause-there c = mounted_has_outline c.args.image.now.disk c.requires.mounts

pub returns-in_err-taken-clause-planned : goal.returns-in_err-taken-clause-planned
returns-in_err-taken-clause-planned c = IfOk-from_err c.from_residual.result _ c.from_residual.ensures.0

pub returns-in_err-taken-clause-outline : goal.returns-in_err-taken-clause-outline
returns-in_err-taken-clause-outline c = IfOk-from_err c.from_residual.result _ c.from_residual.ensures.0

pub returns-in_err-taken-clause-table : goal.returns-in_err-taken-clause-table
returns-in_err-taken-clause-table c = IfOk-from_err c.from_residual.result _ c.from_residual.ensures.0

pub returns-in-Ok-clause-planned : goal.returns-in-Ok-clause-planned
returns-in-Ok-clause-planned c = c.in-Ok.ensures.planned

pub returns-in-Ok-clause-outline : goal.returns-in-Ok-clause-outline
returns-in-Ok-clause-outline c = c.in-Ok.ensures.outline

pub returns-in-Ok-clause-table : goal.returns-in-Ok-clause-table
returns-in-Ok-clause-table c = c.in-Ok.ensures.table

pub returns-in-Err : goal.returns-in-Err
returns-in-Err c = record {
  planned = tt;
  outline = tt;
  table = tt;
  refused = c.in-Err.ensures.refused;
  known = (
    search rules,
    elim c.in-Err.ensures.counted [
      | inl memory ↦ absurd (search rules)
      | inr table ↦ table
    ],
  );
}
