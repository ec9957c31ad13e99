-- A text that didn't go out as a whole is told as that, and a file that is longer than is asked.
use Rattle.std.proofs.Common.{List, ap, subst, sym, ℕ, ◌∙◌}
use Rattle.lfs_sink.specs.Send.{Sends}
use Rattle.std.specs.Result.{result_err}
use Rattle.lfs_request.specs.Fault.{blames_output}
use Rattle.lfs_step.proofs.SayingLemmas.{check_ends, check_refused, check_sent}
use Rattle.lfs_step.proofs.querying.say_check.Goals as goal

pub returns-clause-refused : goal.returns-clause-refused
returns-clause-refused g c =
    check_refused c.args.version c.args.most c.args.form c.args.image.now.disk c.in_ok-mounted.mounted c.in_ok-mounted.ensures.mounted
    c.send.result c.has_longer-longer.result c.has_longer-longer.ensures c.check_ended.result c.check_ended.ensures

pub returns-clause-sent : goal.returns-clause-sent
returns-clause-sent g c =
    let old = g.S.Sink.sent c.args.out.now in
    let new = g.S.Sink.sent c.send.new.out in
    let went = subst (λ (l : List ℕ). Sends c.send.result old new l) (c.deref.ensures.value ∙ c.in_ok-text.ensures) c.send.ensures.sent in
    check_sent c.args.version c.args.most c.args.form c.args.image.now.disk c.in_ok-mounted.mounted c.in_ok-mounted.ensures.mounted
    c.send.result c.has_longer-longer.result c.has_longer-longer.ensures (result_err c.check_ended.result) c.check_ended.ensures old new went

pub returns-clause-failed : goal.returns-clause-failed
returns-clause-failed g c =
    c.send.ensures.failed ∙ check_ends c.send.result c.has_longer-longer.result ∙ ap blames_output (sym c.check_ended.ensures)
