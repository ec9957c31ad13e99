-- A file that a line puts isn't read, or the steps of the lines are taken.
use Rattle.std.proofs.Common.{rules, ◌≡◌, ◌∙◌, ℕ, List, length, refl, ap, subst, sym, inl, inr, map}
use Rattle.std.proofs.lemmas.Result.{err_from_is_err_and}
use Rattle.std.proofs.lemmas.Slice.Zip.{AllZip-long}
use Rattle.std.specs.List.{AllByRecursion}
use Rattle.lfs_command.specs.declared.refusal.Refusal.TheVariants.{Memory as No_memory}
use Rattle.lfs_request.specs.declared.fault.Fault.TheVariants.{Refused}
use Rattle.lfs_history.specs.Meaning.{OnBytes, step_of}
use Rattle.lfs_history.specs.Taking as change
use Rattle.lfs_history.specs.Taking.{KeepsInRange}
use Rattle.lfs_host.specs.Scene.{Scene}
use Rattle.lfs_exchange.specs.Handing.{IsUnread}
use Rattle.lfs_report.specs.Stop.{stopped_by}
use Rattle.lfs_open.specs.LineMoves.{HandsLine, moves_said}
use Rattle.lfs_serve.specs.Batching.{BecomesOf, as_asked}
use Rattle.lfs_serve.proofs.BatchingLemmas.{all_in_range, ends_by, ends_from, takes_lines}
use Rattle.lfs_open.proofs.StopLemmas.{stopped_at}
use Rattle.lfs_history.specs.declared.source.Source.TheVariants.{Input}
use Rattle.lfs_serve.proofs.batching.lines_batched.Goals as goal

pub moves_of-requires : goal.moves_of-requires
moves_of-requires g c =
    let files = (g.H.Known.known c.args.host.now).files in
    AllZip-long (HandsLine files) c.args.lines.now c.in_ok-read.read c.in_ok-read.ensures.read

pub moves_batched-end-requires-clause-range : goal.moves_batched-end-requires-clause-range
moves_batched-end-requires-clause-range g c =
    let moves : List OnBytes = c.deref.result.now in
    let are : moves ≡ c.in_ok-moves.moves.items = c.deref.ensures.value in
    subst (λ (ms : List OnBytes). AllByRecursion (λ m. KeepsInRange (step_of m)) ms) (sym are)
    (all_in_range c.args.lines.now c.in_ok-read.read c.in_ok-moves.moves.items c.requires.range c.in_ok-moves.ensures)

pub returns-in_err-read-clause-ended : goal.returns-in_err-read-clause-ended
returns-in_err-read-clause-ended g c =
    let stop = c.in_err-read.field-0.0 in
    let kept = c.read_lines.ensures.kept.0 in
    inr ((kept.0, kept.2), (stop.fault, search rules, inl c.in_err-read.ensures.refused))

pub returns-in_err-moves-clause-ended : goal.returns-in_err-moves-clause-ended
returns-in_err-moves-clause-ended g c =
    let p = err_from_is_err_and c.from_residual-in_err-moves.result c.from_residual-in_err-moves.ensures.1 in
    let kept = c.read_lines.ensures.kept.0 in
    inr ((kept.0, kept.2), (Refused No_memory, stopped_at c.from_residual-in_err-moves.result (Refused No_memory) p.0 p.1 p.2, inl (Input, refl)))

pub returns-clause-ended : goal.returns-clause-ended
returns-clause-ended g c =
    let old : Scene = g.H.Known.known c.args.host.now in
    let mid : Scene = g.H.Known.known c.read_lines.new.host in
    let new : Scene = g.H.Known.known c.moves_batched-end.new.host in
    let request = c.args.request.now in
    let lines = c.args.lines.now in
    let moves : List OnBytes = c.deref.result.now in
    let are : moves ≡ c.in_ok-moves.moves.items = c.deref.ensures.value in
    let takes = takes_lines old.files lines c.in_ok-read.read moves c.in_ok-moves.moves.items c.in_ok-read.ensures.read c.in_ok-moves.ensures are in
    let kept = c.read_lines.ensures.kept.0 in
    let becomes = BecomesOf old.files lines c.args.one c.args.keep in
    let ended = stopped_by c.numbered.result in
    ends_from becomes (IsUnread new) request.takes_older request.size request.image.now old mid new ended (kept.0, kept.2)
    (ends_by (λ (steps : List change.Move). steps ≡ as_asked c.args.one c.args.keep (map step_of moves)) becomes (IsUnread new) (IsUnread new)
    request.takes_older request.size request.image.now mid new ended (stopped_by c.moves_batched-end.result) c.numbered.ensures
    (λ steps is. (map step_of moves, takes, is)) (λ why unread. unread) c.moves_batched-end.ensures.ended)
