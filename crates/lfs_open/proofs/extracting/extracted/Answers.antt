-- Nothing is made where the image's file isn't read, or a commit of a later version is refused in it.
use Rattle.std.proofs.Common.{refl, inl, inr, ◌≡◌, ℕ, List, None, Some, ap, ◌∙◌}
use Rattle.std.proofs.lemmas.Result.{err_from_is_err_and}
use Rattle.lfs_host.specs.Scene.{Scene}
use Rattle.lfs_report.specs.Stop.{stopped_by}
use Rattle.lfs_command.specs.declared.refusal.Refusal.TheVariants.{Memory}
use Rattle.lfs_request.specs.declared.fault.Fault.TheVariants.{Refused}
use Rattle.lfs_request.specs.declared.manner.Manner.{Manner}
use Rattle.lfs_open.proofs.ExtractingLemmas.{file_unread, asked_read, file_ends, file_later}
use Rattle.lfs_open.proofs.StopLemmas.{stopped_at, reads_at, refused_so}
use Rattle.lfs_exchange.specs.Handing.{most_image}
use Rattle.lfs_host.specs.Files.{ReadsFrom}
use Rattle.lfs_request.specs.View.{start_of}
use Rattle.lfs_request.specs.declared.view.View.{View}
use Rattle.lfs_open.specs.Later.{later_alone, refused_by}
use Rattle.lfs_open.proofs.extracting.extracted.Goals as goal

pub returns-in_err-handed-clause-made : goal.returns-in_err-handed-clause-made
returns-in_err-handed-clause-made g c =
    let request = c.args.request.now in
    let name = request.image.now in
    let old : Scene = g.H.Known.known c.args.host.now in
    let new : Scene = g.H.Known.known c.taken_up.new.host in
    let fault = c.in_err-handed.field-0.0 in
    let kept = c.taken_up.ensures.kept in
    let p = err_from_is_err_and c.from_residual.result c.from_residual.ensures.1 in
    let manner : Manner = record { takes_older = request.takes_older; view = c.args.view } in
    file_unread manner request.size name c.args.path.now c.args.dir.now old new (stopped_by c.from_residual.result) fault (kept.0.0, kept.0.2) kept.2
    (stopped_at c.from_residual.result fault p.0 p.1 p.2) c.in_err-handed.ensures.refused

pub returns-in_err-image-clause-made : goal.returns-in_err-image-clause-made
returns-in_err-image-clause-made g c =
    let request = c.args.request.now in
    let old : Scene = g.H.Known.known c.args.host.now in
    let new : Scene = g.H.Known.known c.taken_up.new.host in
    let kept = c.taken_up.ensures.kept in
    let on = c.from_residual-in_err-image in
    let p = err_from_is_err_and on.result on.ensures.1 in
    let manner : Manner = record { takes_older = request.takes_older; view = c.args.view } in
    file_unread manner request.size request.image.now c.args.path.now c.args.dir.now old new (stopped_by on.result) (Refused Memory) (kept.0.0, kept.0.2) kept.2
    (stopped_at on.result (Refused Memory) p.0 p.1 p.2) (inl (inr refl))

pub returns-in_err-pass_alone-clause-made : goal.returns-in_err-pass_alone-clause-made
returns-in_err-pass_alone-clause-made g c =
    let request = c.args.request.now in
    let name : List ℕ = request.image.now in
    let view : View = c.args.view in
    let manner : Manner = record { takes_older = request.takes_older; view = view } in
    let bytes : List ℕ = c.in_ok-handed.handed.image.items in
    let old : Scene = g.H.Known.known c.args.host.now in
    let mid : Scene = g.H.Known.known c.taken_up.new.host in
    let kept = c.taken_up.ensures.kept in
    let on = c.from_residual-in_err-pass_alone in
    let stop = c.in_err-pass_alone.field-0.0 in
    let p = err_from_is_err_and on.result on.ensures.1 in
    let later : refused_by manner (later_alone request.size bytes) ≡ Some stop.fault =
    refused_so manner (later_alone request.size) c.deref.result.now bytes (stopped_by c.pass_alone.result) (Some stop.fault)
    c.deref.ensures.value c.pass_alone.ensures (ap stopped_by c.in_err-pass_alone.was) in
    let reads : ReadsFrom old.files name (start_of view) most_image bytes =
    reads_at old.files name bytes c.start.result (start_of view) c.start.ensures
    (asked_read c.in_ok-handed.handed.kind c.start.result mid.files old.files name bytes c.in_ok-handed.ensures.kind kept.0.0
    c.in_ok-handed.ensures.handed.image) in
    file_later manner request.size name c.args.path.now c.args.dir.now bytes old mid (stopped_by on.result) stop.fault reads (kept.0.0, kept.0.2) kept.2
    (stopped_at on.result stop.fault p.0 p.1 (ap (λ s. s.fault) p.2)) later

pub returns-clause-made : goal.returns-clause-made
returns-clause-made g c =
    let request = c.args.request.now in
    let name : List ℕ = request.image.now in
    let view : View = c.args.view in
    let manner : Manner = record { takes_older = request.takes_older; view = view } in
    let bytes : List ℕ = c.in_ok-handed.handed.image.items in
    let old : Scene = g.H.Known.known c.args.host.now in
    let mid : Scene = g.H.Known.known c.taken_up.new.host in
    let new : Scene = g.H.Known.known c.extract_bytes.new.host in
    let kept = c.taken_up.ensures.kept in
    let left = c.extract_bytes.ensures.kept in
    let none : refused_by manner (later_alone request.size bytes) ≡ None =
    refused_so manner (later_alone request.size) c.deref.result.now bytes (stopped_by c.pass_alone.result) None c.deref.ensures.value
    c.pass_alone.ensures (ap stopped_by c.in_ok-pass_alone.was) in
    let reads : ReadsFrom old.files name (start_of view) most_image bytes =
    reads_at old.files name bytes c.start.result (start_of view) c.start.ensures
    (asked_read c.in_ok-handed.handed.kind c.start.result mid.files old.files name bytes c.in_ok-handed.ensures.kind kept.0.0
    c.in_ok-handed.ensures.handed.image) in
    file_ends manner request.size name c.args.path.now c.args.dir.now bytes c.in_ok-image.image.items old mid new (stopped_by c.extract_bytes.result) reads kept.1
    kept.2 (left.0 ∙ kept.0.0, left.2 ∙ kept.0.2) none c.in_ok-image.ensures.read c.extract_bytes.ensures.made

pub returns-clause-kept : goal.returns-clause-kept
returns-clause-kept g c =
    let kept = c.taken_up.ensures.kept.0 in
    let left = c.extract_bytes.ensures.kept in
    (left.0 ∙ kept.0, left.1 ∙ kept.1, left.2 ∙ kept.2)
