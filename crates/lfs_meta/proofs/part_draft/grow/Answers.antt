-- Each turn adds a blank entry of those that are wanted.
use Rattle.std.proofs.Common.{[], ◌∷◌, ◌++◌, arith, sym, ap, ◌∙◌}
use Rattle.std.proofs.lemmas.Result.{err_from_is_err_and}
use Rattle.lfs_meta.specs.Entry.{RawEntry}
use Rattle.lfs_meta.specs.Replay.{up_to}
use Rattle.lfs_meta.proofs.GrowLemmas.{up_to-more, up_to-all}
use Rattle.lfs_meta.proofs.part_draft.grow.Goals as goal

pub grow-preserved : goal.grow-preserved
grow-preserved c =
    ap (up_to c.args.id) (c.in_ok-push.ensures.items ∙ ap (λ (e : RawEntry). c.grow.entries.items ++ (e ∷ [])) c.blank.ensures)
    ∙ up_to-more c.args.id c.grow.entries.items (omega arith)
    ∙ c.grow.invariant

pub returns : goal.returns
returns c = sym (up_to-all c.args.id c.grow.entries.items (omega arith)) ∙ c.grow.invariant

pub returns-in_err-push : goal.returns-in_err-push
returns-in_err-push c = rw (err_from_is_err_and c.from_residual.result c.from_residual.ensures.1).1 tt
