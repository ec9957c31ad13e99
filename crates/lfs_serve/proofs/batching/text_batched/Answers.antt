-- A line of a text says no step, or its lines are taken.
use Rattle.std.proofs.Common.{◌≡◌, ◌⊎◌, ℕ, List, Some, ap, refl, sym, subst, inl, inr}
use Rattle.std.specs.List.{AllZip}
use Rattle.lfs_request.specs.declared.fault.Fault.{Fault}
use Rattle.lfs_exchange.specs.Handing.{IsUnread}
use Rattle.lfs_host.specs.Scene.{Scene}
use Rattle.lfs_report.specs.RefusedLine.{fault_of_line}
use Rattle.lfs_texts.specs.Script.{SaysLine, asking_lines}
use Rattle.lfs_texts.specs.declared.script_line.ScriptLine.{ScriptLine}
use Rattle.lfs_serve.specs.Batching.{BecomesOf, IsRefusedLine, AreOnTerms, MayBeOne, SaysNoSteps, TakesText}
use Rattle.lfs_report.specs.Stop.{stopped_by}
use Rattle.lfs_serve.proofs.BatchingLemmas.{ends_by, lines_in_range}
use Rattle.lfs_serve.proofs.batching.text_batched.Goals as goal

pub lines_batched-requires-clause-range : goal.lines_batched-requires-clause-range
lines_batched-requires-clause-range g c =
    let lines : List ScriptLine = c.deref.result.now in
    let same : lines ≡ c.in-Ok.lines.items = c.deref.ensures.value in
    lines_in_range c.args.terms lines c.requires (subst (AreOnTerms c.args.terms) (sym same) c.in-Ok.ensures.terms)

pub returns-in-Ok-clause-ended : goal.returns-in-Ok-clause-ended
returns-in-Ok-clause-ended g c =
    let old : Scene = g.H.Known.known c.args.host.now in
    let new : Scene = g.H.Known.known c.lines_batched.new.host in
    let request = c.args.request.now in
    let text = c.args.text.now in
    let lines : List ScriptLine = c.deref.result.now in
    let same : lines ≡ c.in-Ok.lines.items = c.deref.ensures.value in
    let asked = subst (λ (t : List ℕ). AllZip SaysLine (asking_lines t) c.in-Ok.lines.items) c.script_of-script.ensures c.in-Ok.ensures.lines in
    let says = subst (λ (ls : List ScriptLine). AllZip SaysLine (asking_lines text) ls) (sym same) asked in
    let keeps = subst (AreOnTerms c.args.terms) (sym same) c.in-Ok.ensures.terms in
    let may = subst (MayBeOne c.args.one) (sym same) c.in-Ok.ensures.one in
    let fault = stopped_by c.lines_batched.result in
    ends_by (BecomesOf old.files lines c.args.one c.args.terms.keep) (TakesText old.files c.args.terms c.args.one text) (IsUnread new)
    (λ (why : Fault). IsUnread new why ⊎ SaysNoSteps c.args.one text why) request.takes_older request.size request.image.now old new fault
    fault refl (λ moves becomes. (lines, says, keeps, may, becomes)) (λ why unread. inl unread) c.lines_batched.ensures.ended

pub returns-clause-ended : goal.returns-clause-ended
returns-clause-ended g c =
    let first = c.in-Err.first in
    let refused = subst (λ (t : List ℕ). IsRefusedLine c.args.one t first) c.script_of-script.ensures c.in-Err.ensures.refused in
    inr ((refl, refl), (fault_of_line first.fault, ap Some c.stop_of_line.ensures.fault, inl (inr (first, refused, refl))))
