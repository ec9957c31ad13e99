-- Nothing is saved where the image's file isn't read.
use Rattle.std.proofs.Common.{◌∙◌, ◌≤◌, List, Option, inl, inr, length, refl, subst, sym, true, ℕ}
use Rattle.std.proofs.lemmas.Result.{err_from_is_err_and}
use Rattle.lfs_exchange.specs.Handing.{most_image}
use Rattle.lfs_host.specs.Files.{ReadsFrom}
use Rattle.lfs_host.specs.Scene.{Scene}
use Rattle.lfs_report.specs.Stop.{stopped_by}
use Rattle.lfs_command.specs.declared.refusal.Refusal.TheVariants.{Memory}
use Rattle.lfs_request.specs.declared.fault.Fault.TheVariants.{Refused}
use Rattle.lfs_request.specs.View.{start_of}
use Rattle.lfs_request.specs.declared.fault.Fault.{Fault}
use Rattle.lfs_request.specs.declared.view.View.{View}
use Rattle.lfs_open.specs.Salvaging.{EndsSalvaged}
use Rattle.lfs_open.proofs.ExtractingLemmas.{asked_read}
use Rattle.lfs_open.proofs.ReadLengths.{read_long}
use Rattle.lfs_open.proofs.SalvagingLemmas.{file_salvaged, file_unsaved}
use Rattle.lfs_open.proofs.StopLemmas.{stopped_at}
use Rattle.lfs_open.proofs.salvaging.salvaged.Goals as goal

pub returns-in_err-handed-clause-made : goal.returns-in_err-handed-clause-made
returns-in_err-handed-clause-made g c =
    let request = c.args.request.now in
    let name = request.image.now in
    let old : Scene = g.H.Known.known c.args.host.now in
    let new : Scene = g.H.Known.known c.taken_up.new.host in
    let fault = c.in_err-handed.field-0.0 in
    let kept = c.taken_up.ensures.kept in
    let p = err_from_is_err_and c.from_residual.result c.from_residual.ensures.1 in
    file_unsaved c.args.view request.size name c.args.dir.now old new (stopped_by c.from_residual.result) fault (kept.0.0, kept.0.2) kept.2
    (stopped_at c.from_residual.result fault p.0 p.1 p.2) c.in_err-handed.ensures.refused

pub returns-in_err-own-clause-made : goal.returns-in_err-own-clause-made
returns-in_err-own-clause-made g c =
    let request = c.args.request.now in
    let old : Scene = g.H.Known.known c.args.host.now in
    let new : Scene = g.H.Known.known c.taken_up.new.host in
    let kept = c.taken_up.ensures.kept in
    let on = c.from_residual-in_err-own in
    let p = err_from_is_err_and on.result on.ensures.1 in
    file_unsaved c.args.view request.size request.image.now c.args.dir.now old new (stopped_by on.result) (Refused Memory)
    (kept.0.0, kept.0.2) kept.2 (stopped_at on.result (Refused Memory) p.0 p.1 p.2) (inl (inr refl))

pub returns-in_err-read-clause-made : goal.returns-in_err-read-clause-made
returns-in_err-read-clause-made g c =
    let request = c.args.request.now in
    let old : Scene = g.H.Known.known c.args.host.now in
    let new : Scene = g.H.Known.known c.taken_up.new.host in
    let kept = c.taken_up.ensures.kept in
    let on = c.from_residual-in_err-read in
    let p = err_from_is_err_and on.result on.ensures.1 in
    file_unsaved c.args.view request.size request.image.now c.args.dir.now old new (stopped_by on.result) (Refused Memory)
    (kept.0.0, kept.0.2) kept.2 (stopped_at on.result (Refused Memory) p.0 p.1 p.2) (inl (inr refl))

pub salvage_bytes-requires : goal.salvage_bytes-requires
salvage_bytes-requires g c =
    let view : View = c.args.view in
    let bytes : List ℕ = c.in_ok-handed.handed.image.items in
    let image : List ℕ = c.in_ok-read.read.items in
    subst (λ (own : List ℕ). length image ≤ length own) (sym (c.in_ok-own.ensures.items ∙ c.deref.ensures.value))
    (read_long view.offset true c.args.request.now.size bytes image c.in_ok-read.ensures)

pub returns-clause-made : goal.returns-clause-made
returns-clause-made g c =
    let request = c.args.request.now in
    let name : List ℕ = request.image.now in
    let view : View = c.args.view in
    let bytes : List ℕ = c.in_ok-handed.handed.image.items in
    let image : List ℕ = c.in_ok-read.read.items in
    let old : Scene = g.H.Known.known c.args.host.now in
    let mid : Scene = g.H.Known.known c.taken_up.new.host in
    let new : Scene = g.H.Known.known c.salvage_bytes.new.host in
    let kept = c.taken_up.ensures.kept in
    let left = c.salvage_bytes.ensures.kept in
    let ended : Option Fault = stopped_by c.salvage_bytes.result in
    let ends : EndsSalvaged request.size bytes image c.args.dir.now mid.tree mid.made new ended =
    subst (λ (own : List ℕ). EndsSalvaged request.size own image c.args.dir.now mid.tree mid.made new ended)
    (c.in_ok-own.ensures.items ∙ c.deref.ensures.value) c.salvage_bytes.ensures.made in
    let reads : ReadsFrom old.files name (start_of view) most_image bytes =
    subst (λ (place : ℕ). ReadsFrom old.files name place most_image bytes) c.start.ensures
    (asked_read c.in_ok-handed.handed.kind c.start.result mid.files old.files name bytes c.in_ok-handed.ensures.kind kept.0.0
    c.in_ok-handed.ensures.handed.image) in
    file_salvaged view request.size name c.args.dir.now bytes image old mid new ended reads kept.1 kept.2
    (left.0 ∙ kept.0.0, left.2 ∙ kept.0.2) c.in_ok-read.ensures ends

pub returns-clause-kept : goal.returns-clause-kept
returns-clause-kept g c =
    let kept = c.taken_up.ensures.kept.0 in
    let left = c.salvage_bytes.ensures.kept in
    (left.0 ∙ kept.0, left.1 ∙ kept.1, left.2 ∙ kept.2)
