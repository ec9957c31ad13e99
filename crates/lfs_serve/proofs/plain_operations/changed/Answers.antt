-- The image's files aren't at hand, or what is put isn't read, or the step is taken.
use Rattle.std.proofs.Common.{◌≡◌, ℕ, List, [], ◌∷◌, Option, refl, sym, ap, subst, ◌∙◌, inl, inr, string_bytes}
use Rattle.std.proofs.lemmas.Result.{err_from_is_err_and}
use Rattle.lfs_exchange.specs.declared.step_kind.StepKind.TheVariants.{Changes}
use Rattle.lfs_exchange.specs.Handing.{HandsInput}
use Rattle.lfs_history.specs.Filling.{bytes_given}
use Rattle.lfs_history.specs.Meaning.{step_by, step_of}
use Rattle.lfs_history.specs.Taking as change
use Rattle.lfs_host.specs.Files.{Files}
use Rattle.lfs_host.specs.Scene.{Scene}
use Rattle.lfs_report.specs.Stop.{stopped_by}
use Rattle.lfs_step.specs.declared.step.Step.TheVariants.{Change}
use Rattle.lfs_open.proofs.StopLemmas.{stopped_at}
use Rattle.lfs_serve.proofs.StepLemmas.{step_from, claimed_at, handed_from, target_from}
use Rattle.lfs_serve.proofs.plain_operations.changed.Goals as goal

pub returns-in_err-handed-clause-ended : goal.returns-in_err-handed-clause-ended
returns-in_err-handed-clause-ended g c =
    let fault = c.in_err-handed.field-0.0 in
    let p = err_from_is_err_and c.from_residual.result c.from_residual.ensures.1 in
    let kept = c.taken_up.ensures.kept.0 in
    inr ((kept.0, kept.2), (fault, stopped_at c.from_residual.result fault p.0 p.1 p.2, inr (Changes, refl, c.in_err-handed.ensures.refused)))

pub returns-in_err-input-clause-ended : goal.returns-in_err-input-clause-ended
returns-in_err-input-clause-ended g c =
    let fault = c.in_err-input.field-0.0 in
    let on = c.from_residual-in_err-input in
    let p = err_from_is_err_and on.result on.ensures.1 in
    let first = c.taken_up.ensures.kept.0 in
    let then = c.input_of.ensures.kept in
    inr ((then.0 ∙ first.0, then.1 ∙ first.2), (fault, stopped_at on.result fault p.0 p.1 p.2, inl c.in_err-input.ensures.refused))

pub returns-clause-ended : goal.returns-clause-ended
returns-clause-ended g c =
    let old : Scene = g.H.Known.known c.args.host.now in
    let by_taken : Scene = g.H.Known.known c.taken_up.new.host in
    let mid : Scene = g.H.Known.known c.input_of.new.host in
    let new : Scene = g.H.Known.known c.stepped.new.host in
    let request = c.args.request.now in
    let move = c.args.step.now in
    let first = c.taken_up.ensures.kept.0 in
    let then = c.input_of.ensures.kept in
    let input = c.deref.result.now in
    let input_is : input ≡ c.in_ok-input.input.items = c.deref.ensures.value in
    let reads : HandsInput move old.files old.typed input =
    subst (λ (f : Option Files). HandsInput move f old.typed input) first.0
    (subst (λ (t : Option (List ℕ)). HandsInput move by_taken.files t input) first.1
    (subst (λ (bytes : List ℕ). HandsInput move by_taken.files by_taken.typed bytes) (sym input_is) c.in_ok-input.ensures.input)) in
    let same : step_of c.filled.result ∷ [] ≡ step_by (bytes_given input) move ∷ [] = ap (λ (m : change.Move). m ∷ []) c.filled.ensures in
    inl (
      Change _,
      (input, reads, same),
      step_from (Change _) _ request.size request.image.now mid old new (stopped_by c.stepped.result)
          (then.0 ∙ first.0) (then.1 ∙ first.2) c.stepped.ensures.ended,
    )

pub returns-in_err-handed-clause-rest : goal.returns-in_err-handed-clause-rest
returns-in_err-handed-clause-rest g c =
    let kept = c.taken_up.ensures.kept in
    ((λ _. kept.0.1), (λ _. kept.2))

pub returns-in_err-input-clause-rest : goal.returns-in_err-input-clause-rest
returns-in_err-input-clause-rest g c =
    let first = c.taken_up.ensures.kept in
    let then = c.input_of.ensures in
    ((λ none. then.unread none ∙ first.0.1), (λ _. then.kept.2.0 ∙ first.2))

pub returns-clause-rest : goal.returns-clause-rest
returns-clause-rest g c =
    let first = c.taken_up.ensures.kept in
    let then = c.input_of.ensures in
    ((λ none. c.stepped.ensures.typed ∙ then.unread none ∙ first.0.1), (λ _. c.stepped.ensures.made ∙ then.kept.2.0 ∙ first.2))

pub stepped-requires-clause-target : goal.stepped-requires-clause-target
stepped-requires-clause-target g c =
    let mid : Scene = g.H.Known.known c.taken_up.new.host in
    let new : Scene = g.H.Known.known c.input_of.new.host in
    target_from c.args.request.now.image.now (string_bytes c.in_ok-handed.handed.target) mid.files new.files (sym c.input_of.ensures.kept.0)
    c.in_ok-handed.ensures.target

pub stepped-requires-clause-claimed : goal.stepped-requires-clause-claimed
stepped-requires-clause-claimed g c =
    let mid : Scene = g.H.Known.known c.taken_up.new.host in
    let new : Scene = g.H.Known.known c.input_of.new.host in
    let at = string_bytes c.in_ok-handed.handed.target in
    claimed_at c.in_ok-handed.handed.kind mid new at at refl c.input_of.ensures.kept.2.1 c.in_ok-handed.ensures.claimed

pub stepped-requires-clause-handed : goal.stepped-requires-clause-handed
stepped-requires-clause-handed g c =
    let handed = c.in_ok-handed.handed in
    let mid : Scene = g.H.Known.known c.taken_up.new.host in
    let new : Scene = g.H.Known.known c.input_of.new.host in
    handed_from handed.kind 0 c.args.request.now.image.now mid new (record { image = handed.image.items; journal = handed.journal.items })
    (sym c.input_of.ensures.kept.0) c.in_ok-handed.ensures.handed
