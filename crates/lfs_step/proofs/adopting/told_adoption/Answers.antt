-- An image is taken over, or has a cause; a journal with changes stays; and standard output may fail.
use Rattle.std.proofs.Common.{◌≡◌, ◌&&◌, not, ℕ, List, Some, ap, sym, ◌∙◌}
use Rattle.std.proofs.lemmas.Result.{err_from_is_err_and}
use Rattle.lfs_adopt.specs.Changed.{changed_blocks}
use Rattle.lfs_change.specs.Adopting.{adopted_with}
use Rattle.lfs_request.specs.Fault.{blames_output}
use Rattle.lfs_request.specs.declared.fault.Fault.{Fault}
use Rattle.lfs_step.specs.Adopting.{drops_changes}
use Rattle.lfs_step.specs.ChangedText.{changed_text}
use Rattle.lfs_step.proofs.AdoptingLemmas.{is_changes, is_unwritten, memory_silent, none_dropped, replacing_refused, replacing_silent, unwritten_refused, unwritten_sent}
use Rattle.lfs_step.proofs.adopting.told_adoption.Goals as goal

pub returns-in_err-may_replace-clause-adopted : goal.returns-in_err-may_replace-clause-adopted
returns-in_err-may_replace-clause-adopted g c =
    let a = c.in_ok-adoption.adoption in
    let is = c.in_ok-adoption.ensures.adopted in
    let p = err_from_is_err_and c.from_residual-in_err-may_replace.result c.from_residual-in_err-may_replace.ensures.1 in
    let why = c.in_err-may_replace.ensures in
    rw (p.1, p.2) (replacing_refused c.args.replaces c.args.image.now.disk (adopted_with c.args.image.now.disk a) c.deref.result.now c.args.journal.now _ is.adopted
    (c.deref.ensures.value ∙ is.changed) why)

pub returns-in_err-may_replace-clause-sent : goal.returns-in_err-may_replace-clause-sent
returns-in_err-may_replace-clause-sent g c =
    let d = c.args.image.now.disk in
    let p = err_from_is_err_and c.from_residual-in_err-may_replace.result c.from_residual-in_err-may_replace.ensures.1 in
    rw (p.1, p.2) (replacing_silent c.args.form d d _ (g.S.Sink.sent c.args.out.now)
    (is_changes c.args.replaces c.deref.result.now c.args.journal.now _ c.in_err-may_replace.ensures))

pub returns-in_err-may_replace-clause-failed : goal.returns-in_err-may_replace-clause-failed
returns-in_err-may_replace-clause-failed g c =
    let p = err_from_is_err_and c.from_residual-in_err-may_replace.result c.from_residual-in_err-may_replace.ensures.1 in
    let same = is_changes c.args.replaces c.deref.result.now c.args.journal.now _ c.in_err-may_replace.ensures in
    rw (p.1, p.2) (c.requires ∙ ap (λ (f : Fault). blames_output (Some f)) (sym same))

pub returns-in_err-text-clause-sent : goal.returns-in_err-text-clause-sent
returns-in_err-text-clause-sent g c =
    let d = c.args.image.now.disk in
    let p = err_from_is_err_and c.from_residual-in_err-text.result c.from_residual-in_err-text.ensures.1 in
    rw (p.1, p.2) (memory_silent c.args.form d d (g.S.Sink.sent c.args.out.now))

pub returns-in_err-sent_complete-clause-adopted : goal.returns-in_err-sent_complete-clause-adopted
returns-in_err-sent_complete-clause-adopted g c =
    let a = c.in_ok-adoption.adoption in
    let p = err_from_is_err_and c.from_residual-in_err-sent_complete.result c.from_residual-in_err-sent_complete.ensures.1 in
    rw (p.1, p.2) (unwritten_refused c.args.replaces c.args.image.now.disk (adopted_with c.args.image.now.disk a) c.args.journal.now _ c.in_ok-adoption.ensures.adopted.adopted
    (is_unwritten c.send.result _ c.in_err-sent_complete.ensures).1)

pub returns-in_err-sent_complete-clause-sent : goal.returns-in_err-sent_complete-clause-sent
returns-in_err-sent_complete-clause-sent g c =
    let d = c.args.image.now.disk in
    let a = c.in_ok-adoption.adoption in
    let is = c.in_ok-adoption.ensures.adopted in
    let p = err_from_is_err_and c.from_residual-in_err-sent_complete.result c.from_residual-in_err-sent_complete.ensures.1 in
    let why = is_unwritten c.send.result _ c.in_err-sent_complete.ensures in
    let told : c.deref-3.result.now ≡ changed_text c.args.form (changed_blocks d (adopted_with c.args.image.now.disk a)) =
    c.deref-3.ensures.value ∙ c.in_ok-text.ensures ∙ ap (changed_text c.args.form) (c.deref-2.ensures.value ∙ is.changed) in
    rw (p.1, p.2) (unwritten_sent c.args.form d (adopted_with c.args.image.now.disk a) d c.deref-3.result.now c.send.result _ (g.S.Sink.sent c.args.out.now)
    (g.S.Sink.sent c.send.new.out) is.adopted told c.send.ensures.sent why.0 why.1)

pub returns-in_err-sent_complete-clause-failed : goal.returns-in_err-sent_complete-clause-failed
returns-in_err-sent_complete-clause-failed g c =
    let p = err_from_is_err_and c.from_residual-in_err-sent_complete.result c.from_residual-in_err-sent_complete.ensures.1 in
    let why = is_unwritten c.send.result _ c.in_err-sent_complete.ensures in
    rw (p.1, p.2, why.1) (c.send.ensures.failed ∙ ap not why.0)

pub returns-clause-adopted : goal.returns-clause-adopted
returns-clause-adopted g c =
    let same = ap (λ (l : List ℕ). not c.args.replaces && drops_changes l c.args.journal.now) (sym c.deref.ensures.value) in (
      c.in_ok-adoption.ensures.adopted,
      same ∙ none_dropped (not c.args.replaces && drops_changes c.deref.result.now c.args.journal.now) c.in_ok-may_replace.ensures,
    )
