-- The image's files aren't at hand, or what is put isn't read, or the change is taken.
use Rattle.std.proofs.Common.{◌≡◌, ◌∙◌, ℕ, List, Option, refl, sym, subst, inl, inr, string_bytes, false}
use Rattle.std.proofs.lemmas.Result.{err_from_is_err_and}
use Rattle.lfs_exchange.specs.declared.step_kind.StepKind.TheVariants.{Changes}
use Rattle.lfs_exchange.specs.Handing.{HandsSource}
use Rattle.lfs_host.specs.Files.{Files}
use Rattle.lfs_host.specs.Scene.{Scene}
use Rattle.lfs_report.specs.Stop.{stopped_by}
use Rattle.lfs_step.specs.declared.step.Step.TheVariants.{Tree}
use Rattle.lfs_serve.specs.Program.{as_it_is}
use Rattle.lfs_open.proofs.StopLemmas.{stopped_at}
use Rattle.lfs_serve.proofs.StepLemmas.{step_from, claimed_at, handed_from, target_from}
use Rattle.lfs_serve.proofs.tree_operations.put_with_parents.Goals as goal

pub change_of_handed-requires-clause-kind : goal.change_of_handed-requires-clause-kind
change_of_handed-requires-clause-kind g c = c.in_ok-handed.ensures.kind

pub change_of_handed-requires-clause-keep : goal.change_of_handed-requires-clause-keep
change_of_handed-requires-clause-keep g c = c.requires

pub change_of_handed-requires-clause-target : goal.change_of_handed-requires-clause-target
change_of_handed-requires-clause-target g c =
    let mid : Scene = g.H.Known.known c.taken_up.new.host in
    let new : Scene = g.H.Known.known c.source_read.new.host in
    target_from c.args.request.now.image.now (string_bytes c.in_ok-handed.handed.target) mid.files new.files
    (sym c.source_read.ensures.kept.0) c.in_ok-handed.ensures.target

pub change_of_handed-requires-clause-claimed : goal.change_of_handed-requires-clause-claimed
change_of_handed-requires-clause-claimed g c =
    let mid : Scene = g.H.Known.known c.taken_up.new.host in
    let new : Scene = g.H.Known.known c.source_read.new.host in
    let at = string_bytes c.in_ok-handed.handed.target in
    claimed_at c.in_ok-handed.handed.kind mid new at at refl c.source_read.ensures.kept.2.1 c.in_ok-handed.ensures.claimed

pub change_of_handed-requires-clause-handed : goal.change_of_handed-requires-clause-handed
change_of_handed-requires-clause-handed g c =
    let handed = c.in_ok-handed.handed in
    let mid : Scene = g.H.Known.known c.taken_up.new.host in
    let new : Scene = g.H.Known.known c.source_read.new.host in
    handed_from handed.kind 0 c.args.request.now.image.now mid new (record { image = handed.image.items; journal = handed.journal.items })
    (sym c.source_read.ensures.kept.0) c.in_ok-handed.ensures.handed

pub returns-in_err-handed-clause-ended : goal.returns-in_err-handed-clause-ended
returns-in_err-handed-clause-ended g c =
    let fault = c.in_err-handed.field-0.0 in
    let p = err_from_is_err_and c.from_residual.result c.from_residual.ensures.1 in
    let kept = c.taken_up.ensures.kept.0 in
    inr (
      (kept.0, kept.2),
      (fault, stopped_at c.from_residual.result fault p.0 p.1 p.2, inr (Changes, (refl, tt), c.in_err-handed.ensures.refused)),
    )

pub returns-in_err-read-clause-ended : goal.returns-in_err-read-clause-ended
returns-in_err-read-clause-ended g c =
    let fault = c.in_err-read.field-0.0 in
    let on = c.from_residual-in_err-read in
    let p = err_from_is_err_and on.result on.ensures.1 in
    let first = c.taken_up.ensures.kept.0 in
    let then = c.source_read.ensures.kept in
    inr ((then.0 ∙ first.0, then.1 ∙ first.2), (fault, stopped_at on.result fault p.0 p.1 p.2, inl c.in_err-read.ensures.refused))

pub returns-clause-ended : goal.returns-clause-ended
returns-clause-ended g c =
    let old : Scene = g.H.Known.known c.args.host.now in
    let by_taken : Scene = g.H.Known.known c.taken_up.new.host in
    let mid : Scene = g.H.Known.known c.source_read.new.host in
    let new : Scene = g.H.Known.known c.change_of_handed.new.host in
    let request = c.args.request.now in
    let source = c.args.source.now in
    let first = c.taken_up.ensures.kept.0 in
    let then = c.source_read.ensures.kept in
    let read = c.as_slice.result.now in
    let read_is : read ≡ c.in_ok-read.read.items = c.as_slice.ensures.value in
    let reads : HandsSource source old.files old.typed read =
    subst (λ (f : Option Files). HandsSource source f old.typed read) first.0
    (subst (λ (t : Option (List ℕ)). HandsSource source by_taken.files t read) first.1
    (subst (λ (bytes : List ℕ). HandsSource source by_taken.files by_taken.typed bytes) (sym read_is) c.in_ok-read.ensures.input)) in
    inl (
      Tree _ c.args.keep,
      ((refl, refl, (read, reads, c.contents_of-bytes.ensures)), refl),
      step_from (Tree _ c.args.keep) (as_it_is false) request.size request.image.now mid old new (stopped_by c.change_of_handed.result)
          (then.0 ∙ first.0) (then.1 ∙ first.2) c.change_of_handed.ensures.ended,
    )

pub returns-in_err-handed-clause-rest : goal.returns-in_err-handed-clause-rest
returns-in_err-handed-clause-rest g c =
    let kept = c.taken_up.ensures.kept in
    ((λ _. kept.0.1), (λ _. kept.2))

pub returns-in_err-read-clause-rest : goal.returns-in_err-read-clause-rest
returns-in_err-read-clause-rest g c =
    let first = c.taken_up.ensures.kept in
    let then = c.source_read.ensures in
    ((λ none. then.unread none ∙ first.0.1), (λ _. then.kept.2.0 ∙ first.2))

pub returns-clause-rest : goal.returns-clause-rest
returns-clause-rest g c =
    let first = c.taken_up.ensures.kept in
    let then = c.source_read.ensures in
    ((λ none. c.change_of_handed.ensures.typed ∙ then.unread none ∙ first.0.1), (λ _. c.change_of_handed.ensures.made ∙ then.kept.2.0 ∙ first.2))
