-- A session that nothing was done to has the image, and a journal without changes.
use Rattle.std.proofs.Common.{rules, ◌≡◌, Option, Some, subst, sym}
use Rattle.lfs_request.specs.declared.fault.Fault.{Fault}
use Rattle.lfs_request.specs.Fault.{fault_of_mount}
use Rattle.lfs_change.specs.Forgetting.{AnswersForgetting}
use Rattle.lfs_change.proofs.ForgettingLemmas.{forgets, keeps}
use Rattle.lfs_change.proofs.forgetting.image_forgotten.Goals as goal

pub returns-in-Ok-clause-answers : goal.returns-in-Ok-clause-answers
returns-in-Ok-clause-answers c =
    let o = c.outcome_of.result in
    let d = c.args.image.disk in
    subst (λ (f : Option Fault). AnswersForgetting f d.size d.bytes c.args.journal.items o) (sym c.outcome_of.ensures.fault)
    (forgets d c.in-Ok.session o c.requires c.in-Ok.ensures.fresh c.in-Ok.ensures.history c.outcome_of.ensures.image c.outcome_of.ensures.journal)

pub returns-in-Err-clause-answers : goal.returns-in-Err-clause-answers
returns-in-Err-clause-answers c =
    let o = c.new.result in
    let d = c.args.image.disk in
    let why = c.in-Err.field-0.fault in
    let image : o.image.items ≡ d.bytes = search rules in
    let fault : o.fault ≡ Some (fault_of_mount why) = search rules in
    subst (λ (f : Option Fault). AnswersForgetting f d.size d.bytes c.args.journal.items o) (sym fault)
    (image, c.new.ensures.kept.1, keeps why d c.requires c.in-Err.ensures.cause)
