-- What is left decides the whole, up to the last tag or the one that is refused.
use Rattle.std.proofs.lemmas.Result.{err_from_is_err_and}
use Rattle.lfs_tag.specs.Tags.{item_with}
use Rattle.lfs_meta.proofs.ReplayFitsLemmas.{replay-fits}
use Rattle.lfs_meta.proofs.ReplayLemmas.{replay-more, replay-all, replay-refused}
use Rattle.lfs_meta.proofs.replay.replayed.Goals as goal

pub replay-preserved : goal.replay-preserved
replay-preserved c =
    replay-more c.args.tags c.replay.part c.apply.new.self (item_with c.in-Some.tag c.in-Some.bytes.now) c.next.new.self
    c.replay.tag-iterator
    c.replay.invariant c.in-Some.ensures.steps c.in_ok-apply.ensures.applied

pub returns-in_err-apply-clause-refused : goal.returns-in_err-apply-clause-refused
returns-in_err-apply-clause-refused c =
    let p = err_from_is_err_and c.from_residual.result c.from_residual.ensures.1 in
    rw (p.1, p.2)
    (replay-refused c.in_err-apply.field-0.0 c.args.tags c.replay.part (item_with c.in-Some.tag c.in-Some.bytes.now) c.next.new.self
    c.replay.tag-iterator
    c.replay.invariant c.in-Some.ensures.steps c.in_err-apply.ensures.refused)

pub returns-clause-found : goal.returns-clause-found
returns-clause-found c = replay-all c.args.tags c.replay.part c.replay.tag-iterator c.replay.invariant c.in-None.ensures.steps.0

pub returns-clause-fits : goal.returns-clause-fits
returns-clause-fits c = replay-fits c.args.tags c.replay.part c.requires
    (replay-all c.args.tags c.replay.part c.replay.tag-iterator c.replay.invariant c.in-None.ensures.steps.0)

pub returns-in_err-apply-clause-found : goal.returns-in_err-apply-clause-found
returns-in_err-apply-clause-found c = rw (err_from_is_err_and c.from_residual.result c.from_residual.ensures.1).1 tt

pub returns-in_err-apply-clause-fits : goal.returns-in_err-apply-clause-fits
returns-in_err-apply-clause-fits c = rw (err_from_is_err_and c.from_residual.result c.from_residual.ensures.1).1 tt
