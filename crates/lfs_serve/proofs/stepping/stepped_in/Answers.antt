use Rattle.std.proofs.Common.{rules, ◌≡◌, List, ℕ, Some, None, inl, inr, refl, ap, sym, subst, ◌∙◌, string_bytes}
use Rattle.std.proofs.lemmas.Result.{err_from_is_err_and}
use Rattle.lfs_command.specs.declared.refusal.Refusal.TheVariants.{Memory}
use Rattle.lfs_request.specs.declared.fault.Fault.TheVariants.{Refused}
use Rattle.lfs_exchange.specs.Handing.{HandedBytes, IsHanded}
use Rattle.lfs_exchange.specs.Printing.{HandsOn}
use Rattle.lfs_request.specs.View.{start_of}
use Rattle.lfs_serve.specs.StepKind.{kind_of}
use Rattle.lfs_exchange.specs.declared.step_kind.StepKind.{StepKind}
use Rattle.lfs_host.specs.Files.{IsTarget}
use Rattle.lfs_host.specs.Scene.{Scene}
use Rattle.lfs_open.specs.Later.{refused_by}
use Rattle.lfs_serve.specs.LaterRead.{later_read}
use Rattle.lfs_serve.specs.Program.{IsUnwritten, RunsStep}
use Rattle.lfs_open.proofs.StopLemmas.{stopped_at, refused_so}
use Rattle.lfs_serve.proofs.StepLemmas.{ends_behind, ends_later, ends_refused, ends_unhanded, ends_wanting, leaves_at, read_noted, spares_at, step_ran}
use Rattle.lfs_report.specs.Stop.{stopped_by}
use Rattle.lfs_serve.proofs.stepping.stepped_in.Goals as goal

pub returns-in_err-pass_step-clause-ended : goal.returns-in_err-pass_step-clause-ended
returns-in_err-pass_step-clause-ended g c =
    let step = c.args.step in
    let manner = c.args.manner in
    let size = c.args.request.now.size in
    let name = c.args.request.now.image.now in
    let old : Scene = g.H.Known.known c.args.host.now in
    let h : HandedBytes = record { image = c.args.handed.image.items; journal = c.args.handed.journal.items } in
    let place = start_of manner.view in
    let is : IsHanded (kind_of step) place name old h =
    subst (λ (kind : StepKind). IsHanded kind place name old h) c.requires.kind c.requires.handed in
    let fault = c.in_err-pass_step.field-0.0.fault in
    let refused : refused_by manner (later_read step size h.image) ≡ Some fault =
    refused_so manner (later_read step size) c.deref.result.now h.image (stopped_by c.pass_step.result) (Some fault) c.deref.ensures.value
    c.pass_step.ensures (ap stopped_by c.in_err-pass_step.was) in
    let p = err_from_is_err_and c.from_residual.result c.from_residual.ensures.1 in
    ends_later step manner size name old old h (stopped_by c.from_residual.result) fault
    (stopped_at c.from_residual.result fault p.0 p.1 (ap (λ s. s.fault) p.2)) is refused (refl, refl)

pub returns-in_err-read-clause-ended : goal.returns-in_err-read-clause-ended
returns-in_err-read-clause-ended g c =
    let old : Scene = g.H.Known.known c.args.host.now in
    let on = c.from_residual-in_err-read in
    let p = err_from_is_err_and on.result on.ensures.1 in
    ends_wanting c.args.step c.args.manner c.args.request.now.size c.args.request.now.image.now old old _ (Refused Memory)
    (stopped_at on.result (Refused Memory) p.0 p.1 p.2) (c.in_err-read.ensures.refused, refl) (refl, refl)

pub returns-in_err-stored-in-Ok-clause-ended : goal.returns-in_err-stored-in-Ok-clause-ended
returns-in_err-stored-in-Ok-clause-ended g c =
    let step = c.args.step in
    let manner = c.args.manner in
    let size = c.args.request.now.size in
    let name = c.args.request.now.image.now in
    let old : Scene = g.H.Known.known c.args.host.now in
    let by_taken : Scene = g.H.Known.known c.taken.new.host in
    let h : HandedBytes = record { image = c.args.handed.image.items; journal = c.args.handed.journal.items } in
    let place = start_of manner.view in
    let is : IsHanded (kind_of step) place name old h =
    subst (λ (kind : StepKind). IsHanded kind place name old h) c.requires.kind c.requires.handed in
    let none : refused_by manner (later_read step size h.image) ≡ None =
    refused_so manner (later_read step size) c.deref.result.now h.image (stopped_by c.pass_step.result) None c.deref.ensures.value
    c.pass_step.ensures (ap stopped_by c.in_ok-pass_step.was) in
    let by_stored : Scene = g.H.Known.known c.stored.new.host in
    let target = string_bytes c.args.handed.target in
    let files = c.taken.ensures.kept.0 in
    let outcome = c.in-Ok.ensures.ran.0 in
    let runs : RunsStep step manner size name old by_stored None outcome =
    step_ran step manner size name old by_stored h c.note_unfinished-image.result.items None by_taken.printed outcome is none c.requires.tells
    (read_noted manner size h.image c.note_unfinished-image.result.items _ c.in_ok-read.read.items c.note_unfinished-image.ensures
    (c.unfinished_in-held.ensures ∙ c.lines_taken_over-whole.ensures) c.in_ok-read.ensures.read)
    c.in-Ok.ensures.ran.1 c.in-Ok.ensures.ran.2 c.in-Ok.ensures.ran.3 c.stored.ensures.kept.1 tt in
    let fault = c.in_err-stored-in-Ok.field-0.0 in
    let at_is : c.as_str.result.now ≡ target = search rules in
    let unwritten : IsUnwritten old by_stored name fault =
    (c.as_str.result.now, subst (IsTarget old.files name) (sym at_is) c.requires.target, c.in_err-stored-in-Ok.ensures.refused) in
    let spares = spares_at fault c.args.handed.kind (kind_of step) by_stored old.files by_taken.files by_stored.files name target
    c.as_str.result.now outcome c.in-Ok.outcome c.requires.target at_is files c.requires.kind c.in-Ok.ensures.ran.4
    c.in_err-stored-in-Ok.ensures.files in
    ends_behind step manner size name old by_stored _ fault outcome None refl (search rules) unwritten runs spares

pub returns-in-Ok-clause-ended : goal.returns-in-Ok-clause-ended
returns-in-Ok-clause-ended g c =
    let step = c.args.step in
    let manner = c.args.manner in
    let size = c.args.request.now.size in
    let name = c.args.request.now.image.now in
    let old : Scene = g.H.Known.known c.args.host.now in
    let by_taken : Scene = g.H.Known.known c.taken.new.host in
    let h : HandedBytes = record { image = c.args.handed.image.items; journal = c.args.handed.journal.items } in
    let place = start_of manner.view in
    let is : IsHanded (kind_of step) place name old h =
    subst (λ (kind : StepKind). IsHanded kind place name old h) c.requires.kind c.requires.handed in
    let none : refused_by manner (later_read step size h.image) ≡ None =
    refused_so manner (later_read step size) c.deref.result.now h.image (stopped_by c.pass_step.result) None c.deref.ensures.value
    c.pass_step.ensures (ap stopped_by c.in_ok-pass_step.was) in
    let by_stored : Scene = g.H.Known.known c.stored.new.host in
    let target = string_bytes c.args.handed.target in
    let files = c.taken.ensures.kept.0 in
    let outcome = c.in-Ok.ensures.ran.0 in
    let runs : RunsStep step manner size name old by_stored None outcome =
    step_ran step manner size name old by_stored h c.note_unfinished-image.result.items None by_taken.printed outcome is none c.requires.tells
    (read_noted manner size h.image c.note_unfinished-image.result.items _ c.in_ok-read.read.items c.note_unfinished-image.ensures
    (c.unfinished_in-held.ensures ∙ c.lines_taken_over-whole.ensures) c.in_ok-read.ensures.read)
    c.in-Ok.ensures.ran.1 c.in-Ok.ensures.ran.2 c.in-Ok.ensures.ran.3 c.stored.ensures.kept.1 tt in
    let leaves = leaves_at c.args.handed.kind (kind_of step) old.files by_taken.files by_stored.files name target c.as_str.result.now outcome
    c.in-Ok.outcome c.requires.target (search rules) files c.requires.kind c.in-Ok.ensures.ran.4 c.in_ok-stored-in-Ok.ensures.files in
    let flushed = subst (λ (kind : StepKind). HandsOn kind by_stored) c.requires.kind c.in_ok-stored-in-Ok.ensures.flushed in
    (outcome, runs, leaves, flushed)

pub returns-clause-ended : goal.returns-clause-ended
returns-clause-ended g c =
    let step = c.args.step in
    let manner = c.args.manner in
    let size = c.args.request.now.size in
    let name = c.args.request.now.image.now in
    let old : Scene = g.H.Known.known c.args.host.now in
    let by_taken : Scene = g.H.Known.known c.taken.new.host in
    let h : HandedBytes = record { image = c.args.handed.image.items; journal = c.args.handed.journal.items } in
    let place = start_of manner.view in
    let is : IsHanded (kind_of step) place name old h =
    subst (λ (kind : StepKind). IsHanded kind place name old h) c.requires.kind c.requires.handed in
    let none : refused_by manner (later_read step size h.image) ≡ None =
    refused_so manner (later_read step size) c.deref.result.now h.image (stopped_by c.pass_step.result) None c.deref.ensures.value
    c.pass_step.ensures (ap stopped_by c.in_ok-pass_step.was) in
    let by_looked : Scene = g.H.Known.known c.stopped.new.host in
    let fault = c.in-Err.stop.fault in
    let looked = c.stopped.ensures.kept.0 in
    let outcome = c.in-Err.ensures.ran.0 in
    let runs : RunsStep step manner size name old by_looked (Some fault) outcome =
    step_ran step manner size name old by_looked h c.note_unfinished-image.result.items (Some fault) by_taken.printed outcome is none c.requires.tells
    (read_noted manner size h.image c.note_unfinished-image.result.items _ c.in_ok-read.read.items c.note_unfinished-image.ensures
    (c.unfinished_in-held.ensures ∙ c.lines_taken_over-whole.ensures) c.in_ok-read.ensures.read)
    c.in-Err.ensures.ran.1 c.in-Err.ensures.ran.2 c.in-Err.ensures.ran.3 looked.2 (c.stopped.ensures.blamed c.in-Err.ensures.blamed) in
    let files = looked.0 ∙ c.taken.ensures.kept.0 in
    elim c.stopped.ensures.ended [
      | inl same ↦
          ends_refused step manner size name old by_looked (Some c.stopped.result.fault) fault outcome (ap Some same.0) runs files
          (λ differs. subst (λ (kind : StepKind). HandsOn kind by_looked) c.requires.kind (same.1 differs))
      | inr refused ↦
          ends_unhanded step manner size name old by_looked c.args.handed.kind c.stopped.result.fault fault outcome c.requires.kind refused.0
          refused.1 refused.2 refused.3 runs files
    ]

pub returns-in_err-stored-in-Ok-clause-typed : goal.returns-in_err-stored-in-Ok-clause-typed
returns-in_err-stored-in-Ok-clause-typed g c = c.stored.ensures.kept.0 ∙ c.taken.ensures.kept.1

pub returns-in_err-stored-in-Ok-clause-made : goal.returns-in_err-stored-in-Ok-clause-made
returns-in_err-stored-in-Ok-clause-made g c = c.stored.ensures.kept.2.0 ∙ c.taken.ensures.kept.2.0

pub returns-in-Ok-clause-typed : goal.returns-in-Ok-clause-typed
returns-in-Ok-clause-typed g c = c.stored.ensures.kept.0 ∙ c.taken.ensures.kept.1

pub returns-in-Ok-clause-made : goal.returns-in-Ok-clause-made
returns-in-Ok-clause-made g c = c.stored.ensures.kept.2.0 ∙ c.taken.ensures.kept.2.0

pub returns-clause-typed : goal.returns-clause-typed
returns-clause-typed g c = c.stopped.ensures.kept.0.1 ∙ c.taken.ensures.kept.1

pub returns-clause-made : goal.returns-clause-made
returns-clause-made g c = c.stopped.ensures.kept.2 ∙ c.taken.ensures.kept.2.0
