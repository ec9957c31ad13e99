-- Nothing goes out where an image doesn't mount; else it ends as what was said does.
use Rattle.std.proofs.Common.{Option, ap, subst, sym, ◌∙◌}
use Rattle.std.proofs.lemmas.Result.{err_from_is_err_and}
use Rattle.lfs_request.specs.Fault.{blames_output}
use Rattle.lfs_request.specs.declared.fault.Fault.{Fault}
use Rattle.lfs_step.specs.Comparing.{RefusesDifference, SendsDifference, end_of, form_of}
use Rattle.lfs_step.proofs.ComparingLemmas.{difference_ended, difference_refused, ends_blamed, first_silent, refused_as, second_silent}
use Rattle.lfs_step.proofs.comparing.compare.Goals as goal

pub returns-in_err-mounted-clause-sent : goal.returns-in_err-mounted-clause-sent
returns-in_err-mounted-clause-sent g c =
    let d = c.args.image.now.disk in
    let e = c.args.other.now.disk in
    let p = err_from_is_err_and c.from_residual.result c.from_residual.ensures.1 in
    rw p.1 (first_silent c.args.said d e c.in_err-mounted.field-0.0 p.0 (g.S.Sink.sent c.args.out.now) p.2)

pub returns-in_err-mounted_other-clause-sent : goal.returns-in_err-mounted_other-clause-sent
returns-in_err-mounted_other-clause-sent g c =
    let d = c.args.image.now.disk in
    let e = c.args.other.now.disk in
    let p = err_from_is_err_and c.from_residual-in_err-mounted_other.result c.from_residual-in_err-mounted_other.ensures.1 in
    rw (p.1, p.2) (second_silent c.args.said d e c.in_err-mounted_other.field-0.0 (g.S.Sink.sent c.args.out.now) c.in_err-mounted_other.ensures.refused)

pub returns-clause-refused : goal.returns-clause-refused
returns-clause-refused g c =
    let d = c.args.image.now.disk in
    let e = c.args.other.now.disk in
    refused_as c.ended.result (end_of c.say_difference-differs.result) (RefusesDifference (form_of c.args.said) d e) c.ended.ensures
    (λ f ends. difference_refused c.args.said d e c.in_ok-mounted.mounted c.in_ok-mounted_other.mounted_other c.in_ok-mounted.ensures.mounted
    c.in_ok-mounted_other.ensures.mounted c.say_difference-differs.result f c.say_difference-differs.ensures.differs ends)

pub returns-clause-sent : goal.returns-clause-sent
returns-clause-sent g c =
    let d = c.args.image.now.disk in
    let e = c.args.other.now.disk in
    let old = g.S.Sink.sent c.args.out.now in
    let new = g.S.Sink.sent c.say_difference-differs.new.out in
    subst (λ (f : Option Fault). SendsDifference c.args.said d e f old new) (sym c.ended.ensures)
    (difference_ended c.args.said d e c.in_ok-mounted.mounted c.in_ok-mounted_other.mounted_other c.in_ok-mounted.ensures.mounted
    c.in_ok-mounted_other.ensures.mounted c.say_difference-differs.result old new c.say_difference-differs.ensures.sent
    c.say_difference-differs.ensures.differs)

pub returns-clause-failed : goal.returns-clause-failed
returns-clause-failed g c =
    c.say_difference-differs.ensures.failed ∙ ends_blamed c.say_difference-differs.result ∙ ap blames_output (sym c.ended.ensures)
