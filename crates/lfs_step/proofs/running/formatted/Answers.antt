-- A new image is answered with a journal without changes; a refusal hands both back.
use Rattle.std.proofs.Common.{◌≡◌, List, ℕ, Option, ap, sym, ◌∙◌, subst}
use Rattle.lfs_edit.specs.Formatted.{IsFormatted}
use Rattle.lfs_request.specs.declared.fault.Fault.{Fault}
use Rattle.lfs_step.specs.declared.step.Step.TheVariants.{Format}
use Rattle.lfs_step.specs.Outcome.{given}
use Rattle.lfs_step.proofs.OutcomeLemmas.{AnswersBy}
use Rattle.lfs_step.proofs.running.formatted.Goals as goal

pub returns-in-Ok-clause-answers : goal.returns-in-Ok-clause-answers
returns-in-Ok-clause-answers c =
    let o = c.new.result in
    let handed = given c.args.size c.args.image.items c.args.journal.items in
    let image : o.image.items ≡ c.in-Ok.new.items = ap (λ v. v.items) c.new.ensures.kept.0 in
    let journal = c.new.ensures.kept.1 in
    let made = subst (λ (bytes : List ℕ). IsFormatted c.args.size c.args.count c.args.limits bytes) (sym image) c.in-Ok.ensures.made in
    subst (λ (x : Option Fault). AnswersBy x (Format c.args.count c.args.limits) handed o) (sym c.new.ensures.fault)
    (made, journal ∙ c.in-Ok.ensures.empty)

pub returns-in-Err-clause-answers : goal.returns-in-Err-clause-answers
returns-in-Err-clause-answers c =
    let o = c.new-in-Err.result in
    let handed = given c.args.size c.args.image.items c.args.journal.items in
    let image : o.image.items ≡ c.args.image.items = ap (λ v. v.items) c.new-in-Err.ensures.kept.0 in
    let journal : o.journal.items ≡ c.args.journal.items = c.new-in-Err.ensures.kept.1 in
    subst (λ (x : Option Fault). AnswersBy x (Format c.args.count c.args.limits) handed o) (sym c.new-in-Err.ensures.fault)
    ((image, journal), c.in-Err.ensures.refused)
