-- The image's files aren't at hand, or the other image isn't read, or the question is answered.
use Rattle.std.proofs.Common.{ℕ, List, Option, refl, subst, ◌∙◌, inl, inr, sym, string_bytes}
use Rattle.std.proofs.lemmas.Result.{err_from_is_err_and}
use Rattle.lfs_exchange.specs.declared.step_kind.StepKind.{StepKind}
use Rattle.lfs_exchange.specs.Handing.{HandsQuestion, IsNotTakenUp, HandedBytes}
use Rattle.lfs_exchange.specs.StepKind.{kind_of_query}
use Rattle.lfs_host.specs.Files.{Files}
use Rattle.lfs_host.specs.Scene.{Scene}
use Rattle.lfs_command.specs.declared.refusal.Refusal.TheVariants.{Memory}
use Rattle.lfs_report.specs.Stop.{stopped_by}
use Rattle.lfs_request.specs.declared.fault.Fault.TheVariants.{Refused}
use Rattle.lfs_request.specs.declared.manner.Manner.{Manner}
use Rattle.lfs_step.specs.declared.step.Step.TheVariants.{Ask}
use Rattle.lfs_open.proofs.StopLemmas.{stopped_at}
use Rattle.lfs_open.specs.ReadBy.{IsAskedBy}
use Rattle.lfs_serve.proofs.StepLemmas.{step_from, claimed_at, handed_from, question_kind, question_tells, target_from, handed_at}
use Rattle.lfs_request.specs.View.{start_of}
use Rattle.lfs_serve.proofs.plain_operations.queried.Goals as goal

pub returns-in_err-handed-clause-ended : goal.returns-in_err-handed-clause-ended
returns-in_err-handed-clause-ended g c =
    let fault = c.in_err-handed.field-0.0 in
    let p = err_from_is_err_and c.from_residual.result c.from_residual.ensures.1 in
    let kept = c.taken_up.ensures.kept.0 in
    let new : Scene = g.H.Known.known c.taken_up.new.host in
    let not = subst (λ (kind : StepKind). IsNotTakenUp kind new c.args.request.now.image.now fault) c.kind_of_query.ensures
    c.in_err-handed.ensures.refused in
    inr ((kept.0, kept.2), (fault, stopped_at c.from_residual.result fault p.0 p.1 p.2, inr (kind_of_query c.args.query.now, refl, not)))

pub returns-in_err-asked-clause-ended : goal.returns-in_err-asked-clause-ended
returns-in_err-asked-clause-ended g c =
    let fault = c.in_err-asked.field-0.0 in
    let on = c.from_residual-in_err-asked in
    let p = err_from_is_err_and on.result on.ensures.1 in
    let first = c.taken_up.ensures.kept.0 in
    let then = c.question_of.ensures.kept.0 in
    inr ((then.0 ∙ first.0, then.2 ∙ first.2), (fault, stopped_at on.result fault p.0 p.1 p.2, inl c.in_err-asked.ensures.refused))

pub returns-in_err-question-clause-ended : goal.returns-in_err-question-clause-ended
returns-in_err-question-clause-ended g c =
    let on = c.from_residual-in_err-question in
    let p = err_from_is_err_and on.result on.ensures.1 in
    let first = c.taken_up.ensures.kept.0 in
    let then = c.question_of.ensures.kept.0 in
    inr ((then.0 ∙ first.0, then.2 ∙ first.2), (Refused Memory, stopped_at on.result (Refused Memory) p.0 p.1 p.2, inl (inl refl)))

pub returns-clause-ended : goal.returns-clause-ended
returns-clause-ended g c =
    let old : Scene = g.H.Known.known c.args.host.now in
    let by_taken : Scene = g.H.Known.known c.taken_up.new.host in
    let mid : Scene = g.H.Known.known c.question_of.new.host in
    let new : Scene = g.H.Known.known c.stepped_in.new.host in
    let request = c.args.request.now in
    let manner : Manner = record { takes_older = request.takes_older; view = c.args.view } in
    let first = c.taken_up.ensures.kept.0 in
    let then = c.question_of.ensures.kept.0 in
    let step = Ask c.in_ok-question.question c.args.form in
    let reads = subst (λ (f : Option Files). HandsQuestion f c.args.query.now c.in_ok-asked.asked) first.0 c.in_ok-asked.ensures.question in
    let asked = subst (λ (image : List ℕ). IsAskedBy c.args.view.by_device request.size image c.in_ok-asked.asked c.in_ok-question.question)
    c.deref.ensures.value c.in_ok-question.ensures in
    inl (
      step,
      (c.in_ok-asked.asked, c.in_ok-handed.handed.image.items, reads, asked, refl),
      step_from step manner request.size request.image.now mid old new (stopped_by c.stepped_in.result)
          (then.0 ∙ first.0) (then.2 ∙ first.2) c.stepped_in.ensures.ended,
    )

pub returns-in_err-handed-clause-rest : goal.returns-in_err-handed-clause-rest
returns-in_err-handed-clause-rest g c =
    let kept = c.taken_up.ensures.kept in
    ((λ _. kept.0.1), (λ _. kept.2))

pub returns-in_err-asked-clause-rest : goal.returns-in_err-asked-clause-rest
returns-in_err-asked-clause-rest g c =
    let first = c.taken_up.ensures.kept in
    let then = c.question_of.ensures.kept in
    ((λ _. then.0.1 ∙ first.0.1), (λ _. then.2 ∙ first.2))

pub returns-in_err-question-clause-rest : goal.returns-in_err-question-clause-rest
returns-in_err-question-clause-rest g c =
    let first = c.taken_up.ensures.kept in
    let then = c.question_of.ensures.kept in
    ((λ _. then.0.1 ∙ first.0.1), (λ _. then.2 ∙ first.2))

pub returns-clause-rest : goal.returns-clause-rest
returns-clause-rest g c =
    let first = c.taken_up.ensures.kept in
    let then = c.question_of.ensures.kept in
    ((λ _. c.stepped_in.ensures.typed ∙ then.0.1 ∙ first.0.1), (λ _. c.stepped_in.ensures.made ∙ then.2 ∙ first.2))

pub stepped_in-requires-clause-target : goal.stepped_in-requires-clause-target
stepped_in-requires-clause-target g c =
    let mid : Scene = g.H.Known.known c.taken_up.new.host in
    let new : Scene = g.H.Known.known c.question_of.new.host in
    target_from c.args.request.now.image.now (string_bytes c.in_ok-handed.handed.target) mid.files new.files (sym c.question_of.ensures.kept.0.0)
    c.in_ok-handed.ensures.target

pub stepped_in-requires-clause-claimed : goal.stepped_in-requires-clause-claimed
stepped_in-requires-clause-claimed g c =
    let mid : Scene = g.H.Known.known c.taken_up.new.host in
    let new : Scene = g.H.Known.known c.question_of.new.host in
    let at = string_bytes c.in_ok-handed.handed.target in
    claimed_at c.in_ok-handed.handed.kind mid new at at refl c.question_of.ensures.kept.3 c.in_ok-handed.ensures.claimed

pub stepped_in-requires-clause-handed : goal.stepped_in-requires-clause-handed
stepped_in-requires-clause-handed g c =
    let handed = c.in_ok-handed.handed in
    let h : HandedBytes = record { image = handed.image.items; journal = handed.journal.items } in
    let name = c.args.request.now.image.now in
    let start = start_of c.args.view in
    let mid : Scene = g.H.Known.known c.taken_up.new.host in
    let new : Scene = g.H.Known.known c.question_of.new.host in
    handed_from handed.kind start name mid new h (sym c.question_of.ensures.kept.0.0)
    (handed_at handed.kind name mid h c.start.result start c.start.ensures c.in_ok-handed.ensures.handed)

pub stepped_in-requires-clause-kind : goal.stepped_in-requires-clause-kind
stepped_in-requires-clause-kind g c =
    let files = (g.H.Known.known c.taken_up.new.host).files in
    c.in_ok-handed.ensures.kind ∙ c.kind_of_query.ensures
    ∙ sym (question_kind files c.args.view.by_device c.args.request.now.size c.deref.result.now c.args.query.now c.in_ok-asked.asked
    c.in_ok-question.question c.in_ok-asked.ensures.question c.in_ok-question.ensures)

pub stepped_in-requires-clause-tells : goal.stepped_in-requires-clause-tells
stepped_in-requires-clause-tells g c =
    let request = c.args.request.now in
    let image : List ℕ = c.in_ok-handed.handed.image.items in
    question_tells c.args.view.by_device request.size image c.args.form c.in_ok-asked.asked c.in_ok-question.question
    (subst (λ (bytes : List ℕ). IsAskedBy c.args.view.by_device request.size bytes c.in_ok-asked.asked c.in_ok-question.question)
    c.deref.ensures.value c.in_ok-question.ensures)
