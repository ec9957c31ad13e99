-- What opens no session is refused for that, and the copy is handed back.
use Rattle.std.proofs.Common.{rules, ◌≡◌, List, ℕ, Option, Some, ap, map, sym, subst, ◌∙◌}
use Rattle.lfs_history.specs.Meaning.{step_of}
use Rattle.lfs_request.specs.declared.fault.Fault.{Fault}
use Rattle.lfs_change.specs.Change.{AnswersImage, RefusesDenoting}
use Rattle.lfs_request.specs.Fault.{fault_of_opening}
use Rattle.lfs_change.proofs.ChangeLemmas.{opening_refuses}
use Rattle.lfs_change.proofs.beside.image_changed.Goals as goal

pub returns-in-Err-clause-answers : goal.returns-in-Err-clause-answers
returns-in-Err-clause-answers c =
    let o = c.new.result in
    let steps = map step_of c.args.steps.now in
    let why = c.in-Err.refused.fault in
    let d = c.args.image.disk in
    let journal = c.args.journal.items in
    let refuses : RefusesDenoting why d journal = subst (λ (bytes : List ℕ). RefusesDenoting why d bytes) c.deref.ensures.value c.in-Err.ensures.refused in
    let image : o.image.items ≡ d.bytes = ap (λ v. v.items) c.new.ensures.kept.0 ∙ c.requires.kept in
    let fault : o.fault ≡ Some (fault_of_opening why) = search rules in
    subst (λ (x : Option Fault). AnswersImage x steps d journal o) (sym fault)
    (image, c.new.ensures.kept.1, opening_refuses why steps o.at d journal refuses)
