-- What is said of an image is said of its bytes.
use Rattle.std.proofs.Common.{◌≡◌, ℕ, List, Option, IfErr, ap, subst, sym, ◌∙◌}
use Rattle.std.specs.Result.{result_err}
use Rattle.lfs_request.specs.declared.fault.Fault.{Fault}
use Rattle.lfs_step.specs.Asking.{RefusesAsked, SendsAsked}
use Rattle.lfs_step.proofs.OutcomeLemmas.{query_answers, query_sends}
use Rattle.lfs_step.proofs.querying.queried.Goals as goal

pub returns-in-Ok-clause-answers : goal.returns-in-Ok-clause-answers
returns-in-Ok-clause-answers g c =
    let o = c.placed.result in
    let q = c.args.query in
    let d = c.in-Ok.image.disk in
    let fault : o.fault ≡ result_err c.report.result = c.placed.ensures.fault ∙ c.err-fault.ensures.value in
    let image : o.image.items ≡ c.args.image.items =
    ap (λ v. v.items) c.placed.ensures.kept.0 ∙ c.into_bytes.ensures ∙ ap (λ e. e.bytes) c.report.ensures.disk ∙ c.in-Ok.ensures.bytes in
    let journal : o.journal.items ≡ c.args.journal.items = c.placed.ensures.kept.1 in
    let refuses : IfErr c.report.result (λ f. RefusesAsked q c.args.form d c.args.journal.items f) =
    subst (λ (l : List ℕ). IfErr c.report.result (λ f. RefusesAsked q c.args.form d l f)) c.deref.ensures.value c.report.ensures.refused in
    query_answers q c.args.form c.args.size c.args.image.items c.args.journal.items d c.report.result o c.in-Ok.ensures.disk c.in-Ok.ensures.size
    c.in-Ok.ensures.bytes refuses fault image journal

pub returns-in-Ok-clause-sent : goal.returns-in-Ok-clause-sent
returns-in-Ok-clause-sent g c =
    let q = c.args.query in
    let d = c.in-Ok.image.disk in
    let old = g.S.Sink.sent c.args.out.now in
    let new = g.S.Sink.sent c.report.new.out in
    let fault : c.placed.result.fault ≡ result_err c.report.result = c.placed.ensures.fault ∙ c.err-fault.ensures.value in
    let told : SendsAsked q c.args.form d c.args.journal.items (result_err c.report.result) old new =
    subst (λ (l : List ℕ). SendsAsked q c.args.form d l (result_err c.report.result) old new) c.deref.ensures.value c.report.ensures.sent in
    let sends : SendsAsked q c.args.form d c.args.journal.items c.placed.result.fault old new =
    subst (λ (x : Option Fault). SendsAsked q c.args.form d c.args.journal.items x old new) (sym fault) told in
    query_sends q c.args.form c.args.size c.args.image.items c.args.journal.items d c.placed.result.fault old new c.in-Ok.ensures.disk
    c.in-Ok.ensures.size c.in-Ok.ensures.bytes sends
