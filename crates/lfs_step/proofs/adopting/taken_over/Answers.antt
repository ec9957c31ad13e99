-- What is left of an image, and said of it, is left of its bytes and said of them.
use Rattle.std.proofs.Common.{◌≡◌, ◌&&◌, not, false, ℕ, List, Option, ap, sym, ◌∙◌, subst}
use Rattle.lfs_block.specs.Disk.{image_of}
use Rattle.lfs_request.specs.declared.fault.Fault.{Fault}
use Rattle.lfs_step.specs.declared.step.Step.TheVariants.{Adopt}
use Rattle.lfs_change.specs.Adopting.{adopted_with}
use Rattle.lfs_step.specs.Adopting.{RefusesImageTaken, SendsChanged, drops_changes}
use Rattle.lfs_step.specs.Outcome.{given}
use Rattle.lfs_step.proofs.AdoptingLemmas.{over_left, over_refused, over_said, over_unsaid}
use Rattle.lfs_step.proofs.OutcomeLemmas.{AnswersBy}
use Rattle.lfs_step.proofs.adopting.taken_over.Goals as goal

pub returns-in-Ok-told_adoption-clause-answers : goal.returns-in-Ok-told_adoption-clause-answers
returns-in-Ok-told_adoption-clause-answers g c =
    let o = c.left_by.result in
    let a = c.in-Ok-told_adoption.adoption in
    let is = c.in-Ok.ensures in
    let handed = given c.args.size c.args.image.items c.args.journal.items in
    let told = c.in-Ok-told_adoption.ensures.adopted in
    let may : (not c.args.replaces && drops_changes a.changed.items c.args.journal.items) ≡ false =
    ap (λ (l : List ℕ). not c.args.replaces && drops_changes a.changed.items l) (sym c.deref.ensures.value) ∙ told.1 in
    subst (λ (x : Option Fault). AnswersBy x (Adopt c.args.form c.args.replaces) handed o) (sym c.left_by.ensures.fault)
    (over_left c.args.replaces c.args.size c.args.image.items c.args.journal.items c.in-Ok.image.disk a o is.disk is.size is.bytes told.0 may
    c.left_by.ensures.image c.left_by.ensures.journal)

pub returns-in-Ok-told_adoption-clause-sent : goal.returns-in-Ok-told_adoption-clause-sent
returns-in-Ok-told_adoption-clause-sent g c =
    let o = c.left_by.result in
    let a = c.in-Ok-told_adoption.adoption in
    let is = c.in-Ok.ensures in
    let old = g.S.Sink.sent c.args.out.now in
    let new = g.S.Sink.sent c.told_adoption.new.out in
    let told = c.in-Ok-told_adoption.ensures.adopted in
    subst (λ (x : Option Fault). SendsChanged c.args.form (image_of c.args.size c.args.image.items) (image_of c.args.size o.image.items) x old new)
    (sym c.left_by.ensures.fault)
    (over_said c.args.form c.args.size c.args.image.items o.image.items c.in-Ok.image.disk (adopted_with c.in-Ok.image.disk a) old new is.disk is.size is.bytes
    told.0.adopted c.left_by.ensures.image c.in-Ok-told_adoption.ensures.sent)

pub returns-in-Err-told_adoption-clause-answers : goal.returns-in-Err-told_adoption-clause-answers
returns-in-Err-told_adoption-clause-answers g c =
    let o = c.new-in-Err-told_adoption.result in
    let d = c.in-Ok.image.disk in
    let is = c.in-Ok.ensures in
    let fault = c.in-Err-told_adoption.fault in
    let handed = given c.args.size c.args.image.items c.args.journal.items in
    let image : o.image.items ≡ c.args.image.items =
    ap (λ v. v.items) c.new-in-Err-told_adoption.ensures.kept.0 ∙ c.into_bytes.ensures ∙ is.bytes in
    let refuses : RefusesImageTaken c.args.replaces d c.args.journal.items fault =
    subst (λ (l : List ℕ). RefusesImageTaken c.args.replaces d l fault) c.deref.ensures.value c.in-Err-told_adoption.ensures.adopted in
    subst (λ (x : Option Fault). AnswersBy x (Adopt c.args.form c.args.replaces) handed o) (sym c.new-in-Err-told_adoption.ensures.fault) (
      (image, c.new-in-Err-told_adoption.ensures.kept.1),
      over_refused c.args.replaces c.args.size c.args.image.items c.args.journal.items d fault is.disk is.size is.bytes refuses,
    )

pub returns-in-Err-told_adoption-clause-sent : goal.returns-in-Err-told_adoption-clause-sent
returns-in-Err-told_adoption-clause-sent g c =
    let o = c.new-in-Err-told_adoption.result in
    let d = c.in-Ok.image.disk in
    let is = c.in-Ok.ensures in
    let fault = c.in-Err-told_adoption.fault in
    let old = g.S.Sink.sent c.args.out.now in
    let new = g.S.Sink.sent c.told_adoption.new.out in
    let e = image_of c.args.size o.image.items in
    subst (λ (x : Option Fault). SendsChanged c.args.form (image_of c.args.size c.args.image.items) e x old new)
    (sym c.new-in-Err-told_adoption.ensures.fault)
    (over_unsaid c.args.form c.args.size c.args.image.items d e fault old new is.disk is.size is.bytes c.in-Err-told_adoption.ensures.sent)
