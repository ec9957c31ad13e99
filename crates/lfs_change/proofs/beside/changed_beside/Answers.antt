-- What is answered on an image is answered on its bytes.
use Rattle.std.proofs.Common.{◌≡◌, Option, Some, ap, inl, map, refl, sym, subst, ◌∙◌}
use Rattle.lfs_command.specs.declared.refusal.Refusal.TheVariants.{Memory}
use Rattle.lfs_history.specs.Meaning.{step_of}
use Rattle.lfs_request.specs.declared.fault.Fault.{Fault}
use Rattle.lfs_request.specs.declared.fault.Fault.TheVariants.{Refused}
use Rattle.lfs_change.specs.Change.{AnswersImage}
use Rattle.lfs_change.proofs.ChangeLemmas.{change_answers}
use Rattle.lfs_change.proofs.beside.changed_beside.Goals as goal

pub returns-in-Ok-Ok-clause-answers : goal.returns-in-Ok-Ok-clause-answers
returns-in-Ok-Ok-clause-answers c =
    change_answers (map step_of c.args.steps.now) c.args.size c.args.image.items c.args.journal.items c.in-Ok-Ok.image.disk
    c.image_changed.result c.in-Ok-Ok.ensures.disk c.in-Ok-Ok.ensures.size c.in-Ok-Ok.ensures.bytes c.image_changed.ensures.answers

pub returns-in-Ok-Err-clause-answers : goal.returns-in-Ok-Err-clause-answers
returns-in-Ok-Err-clause-answers c =
    let o = c.new-in-Ok-Err.result in
    let steps = map step_of c.args.steps.now in
    let d = c.in-Ok-Err.image.disk in
    let image : o.image.items ≡ d.bytes = ap (λ v. v.items) c.new-in-Ok-Err.ensures.kept.0 ∙ c.into_bytes.ensures in
    let same : o.journal.items ≡ c.args.journal.items = c.new-in-Ok-Err.ensures.kept.1 in
    let on : AnswersImage (Some (Refused Memory)) steps d c.args.journal.items o = (image, same, inl refl) in
    change_answers steps c.args.size c.args.image.items c.args.journal.items d o c.in-Ok-Err.ensures.disk c.in-Ok-Err.ensures.size
    c.in-Ok-Err.ensures.bytes (subst (λ (f : Option Fault). AnswersImage f steps d c.args.journal.items o) (sym c.new-in-Ok-Err.ensures.fault) on)
