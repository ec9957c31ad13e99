use Rattle.std.proofs.Common.{ℕ, List, [], ◌∷◌, ◌∙◌, Option, ap, refl, subst, sym}
use Rattle.lfs_block.specs.Disk.{IsDisk}
use Rattle.lfs_block.proofs.BytesLemmas.{at_bytes}
use Rattle.lfs_change.specs.Change.{AnswersChange, RefusesImage}
use Rattle.lfs_history.specs.Taking.{Together}
use Rattle.lfs_request.specs.declared.fault.Fault.{Fault}
use Rattle.lfs_step.specs.declared.step.Step.TheVariants.{Tree}
use Rattle.lfs_step.specs.Outcome.{given}
use Rattle.lfs_step.specs.TreeChanging.{IsAsked, asked_by}
use Rattle.lfs_step.proofs.OutcomeLemmas.{AnswersBy}
use Rattle.lfs_step.proofs.TreeLemmas.{commands_answer, none_answer, refused_bytes, told}
use Rattle.lfs_step.proofs.tree_changing.image_changed.Goals as goal

pub plan_changed-outcome-requires-clause-disk : goal.plan_changed-outcome-requires-clause-disk
plan_changed-outcome-requires-clause-disk c =
    at_bytes c.args.image.disk c.size-size.result c.into_bytes-image.result.items IsDisk c.requires.disk (sym c.size-size.ensures.value)
    (sym c.into_bytes-image.ensures) c.requires.disk

pub returns-in-Ok-clause-answers : goal.returns-in-Ok-clause-answers
returns-in-Ok-clause-answers c =
    let d = c.args.image.disk in
    let change = c.args.change.now in
    let keep = c.args.keep in
    let o = c.plan_changed-outcome.result in
    let p = c.with_command.result in
    let plan = c.in-Ok.plan.items in
    let asked = asked_by change plan in
    let journal = c.args.journal.items in
    let is = at_bytes d d.size d.bytes (λ x. IsAsked change x asked) c.requires.disk refl refl c.in-Ok.ensures.planned in
    let sized = subst (λ (n : ℕ). AnswersChange o.fault (Together (asked_by change c.deref.result.now) keep ∷ []) n c.into_bytes-image.result.items journal o)
    c.size-size.ensures.value c.plan_changed-outcome.ensures.answers in
    let bytes = subst (λ (b : List ℕ). AnswersChange o.fault (Together (asked_by change c.deref.result.now) keep ∷ []) d.size b journal o)
    c.into_bytes-image.ensures sized in
    let planned = subst (λ (l : List _). AnswersChange o.fault (Together (asked_by change l) keep ∷ []) d.size d.bytes journal o) c.deref.ensures.value bytes in
    let telling = told o.fault (Together asked keep ∷ []) d.size d.bytes journal o p (ap (λ v. v.items) c.with_command.ensures.kept.0)
    c.with_command.ensures.kept.1 c.with_command.ensures.at planned in
    subst (λ (f : Option Fault). AnswersBy f (Tree change keep) (given d.size d.bytes journal) p) (sym c.with_command.ensures.fault)
    (commands_answer change keep o.fault asked d.size d.bytes journal p is telling)

pub returns-in-Err-clause-answers : goal.returns-in-Err-clause-answers
returns-in-Err-clause-answers c =
    let d = c.args.image.disk in
    let change = c.args.change.now in
    let keep = c.args.keep in
    let p = c.new.result in
    let f = c.in-Err.fault in
    let journal = c.args.journal.items in
    let is = at_bytes d d.size d.bytes IsDisk c.requires.disk refl refl c.requires.disk in
    let refuses = at_bytes d d.size d.bytes (λ x. RefusesImage [] p.at x journal f) c.requires.disk refl refl (c.in-Err.ensures.refused p.at journal) in
    let image = ap (λ v. v.items) c.new.ensures.kept.0 ∙ c.into_bytes-image.ensures in
    subst (λ (f : Option Fault). AnswersBy f (Tree change keep) (given d.size d.bytes journal) p) (sym c.new.ensures.fault)
    (none_answer change keep f d.size d.bytes journal p (image, c.new.ensures.kept.1, refused_bytes p.at d.size d.bytes journal f is refuses))
