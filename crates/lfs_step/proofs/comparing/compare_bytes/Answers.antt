-- What is said of two images is said of the bytes that the other is.
use Rattle.std.specs.Result.{result_err}
use Rattle.std.proofs.lemmas.Result.{IfErr-weaker}
use Rattle.lfs_step.proofs.ComparingLemmas.{compared_refused, compared_sent}
use Rattle.lfs_step.proofs.comparing.compare_bytes.Goals as goal

pub returns-in-Ok-clause-refused : goal.returns-in-Ok-clause-refused
returns-in-Ok-clause-refused g c =
    let d = c.args.image.now.disk in
    let e = c.in-Ok.other.disk in
    IfErr-weaker c.compare.result _ _
    (λ f refuses. compared_refused c.args.said d e c.args.size c.args.others.items f c.in-Ok.ensures.disk c.in-Ok.ensures.size c.in-Ok.ensures.bytes refuses)
    c.compare.ensures.refused

pub returns-in-Ok-clause-sent : goal.returns-in-Ok-clause-sent
returns-in-Ok-clause-sent g c =
    compared_sent c.args.said c.args.image.now.disk c.in-Ok.other.disk c.args.size c.args.others.items (result_err c.compare.result)
    (g.S.Sink.sent c.args.out.now) (g.S.Sink.sent c.compare.new.out) c.in-Ok.ensures.disk c.in-Ok.ensures.size c.in-Ok.ensures.bytes
    c.compare.ensures.sent
