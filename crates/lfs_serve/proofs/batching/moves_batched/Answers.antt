-- Steps are taken as they are, or their commands as one change.
use Rattle.std.proofs.Common.{rules, ◌≡◌, ◌<◌, ◌∙◌, List, [], ◌∷◌, ap, inl, inr, length, map, refl, true}
use Rattle.std.proofs.lemmas.Result.{err_from_is_err_and}
use Rattle.lfs_command.specs.AskedFor.{OnTexts, asked_for}
use Rattle.lfs_command.specs.declared.refusal.Refusal.TheVariants.{Memory as No_memory}
use Rattle.lfs_request.specs.declared.fault.Fault.TheVariants.{Refused}
use Rattle.lfs_history.specs.Meaning.{step_of}
use Rattle.lfs_history.specs.Taking as change
use Rattle.lfs_host.specs.Scene.{Scene}
use Rattle.lfs_exchange.specs.Handing.{IsUnread}
use Rattle.lfs_report.specs.Stop.{stopped_by}
use Rattle.lfs_open.specs.LineMoves.{commands_in}
use Rattle.lfs_serve.specs.Batching.{as_asked}
use Rattle.lfs_serve.proofs.BatchingLemmas.{as_one, as_they_are, ends_by, none_asked}
use Rattle.lfs_open.proofs.StopLemmas.{stopped_at}
use Rattle.lfs_history.specs.declared.source.Source.TheVariants.{Input}
use Rattle.lfs_serve.proofs.batching.moves_batched.Goals as goal
use Rattle.lfs_serve.proofs.batching.moves_batched.Goals.{then-not-one-via-then-not-one, then-not-one-via-else-not-one+then-is_empty}

pub returns-in_err-commands-clause-ended : goal.returns-in_err-commands-clause-ended
returns-in_err-commands-clause-ended g c =
    let p = err_from_is_err_and c.from_residual.result c.from_residual.ensures.1 in
    inr ((refl, refl), (Refused No_memory, stopped_at c.from_residual.result (Refused No_memory) p.0 p.1 p.2, inl (Input, refl)))

pub returns-clause-ended : goal.returns-clause-ended
returns-clause-ended g c =
    let old : Scene = g.H.Known.known c.args.host.now in
    let new : Scene = g.H.Known.known c.moves_taken-2.new.host in
    let request = c.args.request.now in
    let moves = c.args.moves.now in
    let commands : List OnTexts = c.deref.result.now in
    let are : map asked_for commands ≡ commands_in (map step_of moves) = ap (map asked_for) c.deref.ensures.value ∙ c.in_ok-commands.ensures in
    let one : c.args.one ≡ true = search rules in
    let some : 0 < length moves = search rules in
    let fault = stopped_by c.moves_taken-2.result in
    ends_by (λ (taken : List change.Move). taken ≡ change.Together (map asked_for commands) c.args.keep ∷ [])
    (λ (taken : List change.Move). taken ≡ as_asked c.args.one c.args.keep (map step_of moves)) (IsUnread new) (IsUnread new)
    request.takes_older request.size request.image.now old new fault fault refl
    (λ taken is. is ∙ as_one c.args.one c.args.keep moves (map asked_for commands) one some are) (λ why unread. unread)
    c.moves_taken-2.ensures.ended

pub returns-then-not-one-clause-ended : goal.returns-then-not-one-clause-ended
returns-then-not-one-clause-ended g c =
    let new : Scene = g.H.Known.known c.moves_taken.new.host in
    let request = c.args.request.now in
    let moves = map step_of c.args.moves.now in
    let same : moves ≡ as_asked c.args.one c.args.keep moves =
    elim c.then-not-one.branch [
      | then-not-one-via-then-not-one w ↦ as_they_are c.args.one c.args.keep moves (search rules)
      | then-not-one-via-else-not-one+then-is_empty w ↦ none_asked c.args.one c.args.keep c.args.moves.now (search rules)
    ] in
    let fault = stopped_by c.moves_taken.result in
    ends_by (λ (taken : List change.Move). taken ≡ moves) (λ (taken : List change.Move). taken ≡ as_asked c.args.one c.args.keep moves)
    (IsUnread new) (IsUnread new) request.takes_older request.size request.image.now (g.H.Known.known c.args.host.now) new fault fault refl
    (λ taken is. is ∙ same) (λ why unread. unread) c.moves_taken.ensures.ended
