-- A folder is made of it, or something ends that.
use Rattle.std.proofs.Common.{rules, ◌≡◌, Bool, None, Option, Some, [], ap, false, inl, inr, refl, subst, true}
use Rattle.std.proofs.lemmas.Result.{err_from_is_err_and}
use Rattle.std.specs.Result.{result_err}
use Rattle.lfs_block.specs.Disk.{Disk}
use Rattle.lfs_command.specs.declared.refusal.Refusal.TheVariants.{Memory}
use Rattle.lfs_fs.specs.Path.{path_text}
use Rattle.lfs_host.specs.Scene.{Scene}
use Rattle.lfs_report.specs.Stop.{stopped_by}
use Rattle.lfs_request.specs.declared.fault.Fault.{Fault}
use Rattle.lfs_request.specs.declared.fault.Fault.TheVariants.{Refused}
use Rattle.lfs_open.specs.Extracting.{EndsMaking}
use Rattle.lfs_open.specs.Salvaging.{Finds, IsOther}
use Rattle.lfs_open.proofs.SalvagingLemmas.{whole_made, whole_stopped, whole_without_memory}
use Rattle.lfs_open.proofs.StopLemmas.{stopped_at}
use Rattle.lfs_open.proofs.salvaging.salvage_mounted.Goals as goal

found_so : (d e : Disk) (lost older is_older other : Bool) → lost ≡ false → older ≡ is_older → other ≡ false → Finds d e lost older other
    → Finds d e false is_older false
found_so d e lost older is_older other no_lost is no_other finds =
    subst (λ (b : Bool). Finds d e false is_older b) no_other
    (subst (λ (b : Bool). Finds d e b is_older other) no_lost (subst (λ (b : Bool). Finds d e lost b other) is finds))

pub returns-in_err-has_lost-clause-made : goal.returns-in_err-has_lost-clause-made
returns-in_err-has_lost-clause-made g c =
    let old : Scene = g.H.Known.known c.args.host.now in
    let on = c.from_residual in
    let p = err_from_is_err_and on.result on.ensures.1 in
    inl (whole_without_memory c.args.dir.now old.tree old.made old c.args.reading.now.image.disk c.args.reading.now.disk.disk c.args.reading.now.parts.disk
    (stopped_by on.result) refl (stopped_at on.result (Refused Memory) p.0 p.1 p.2))

pub returns-in_err-extract_mounted-clause-made : goal.returns-in_err-extract_mounted-clause-made
returns-in_err-extract_mounted-clause-made g c =
    let i : Disk = c.args.reading.now.image.disk in
    let old : Scene = g.H.Known.known c.args.host.now in
    let new : Scene = g.H.Known.known c.extract_mounted.new.host in
    let made : Option Fault = result_err c.extract_mounted.result in
    let fault : Fault = c.in_err-extract_mounted.field-0.0 in
    let told : made ≡ Some fault = search rules in
    let on = c.from_residual-in_err-extract_mounted in
    let p = err_from_is_err_and on.result on.ensures.1 in
    inl (whole_stopped c.args.dir.now old.tree old.made new i c.args.reading.now.disk.disk c.args.reading.now.parts.disk (stopped_by on.result) fault
    (stopped_at on.result fault p.0 p.1 p.2) (subst IsOther told c.extract_mounted.ensures.other)
    (subst (EndsMaking i (path_text []) c.args.dir.now old.tree old.made new) told c.extract_mounted.ensures.made))

pub returns-then-has_lost-clause-made : goal.returns-then-has_lost-clause-made
returns-then-has_lost-clause-made g c =
    let d : Disk = c.args.reading.now.disk.disk in
    let e : Disk = c.args.reading.now.parts.disk in
    let older : Bool = c.in_ok-has_lost.is_older in
    let other : Bool = c.in_ok-has_lost.has_other in
    inr (inr (inl (
      older,
      other,
      subst (λ (b : Bool). Finds d e b older other) c.if-has_lost.true c.in_ok-has_lost.ensures,
      c.save_readable.ensures.made,
    )))

pub returns-then-has_other-clause-made : goal.returns-then-has_other-clause-made
returns-then-has_other-clause-made g c =
    let d : Disk = c.args.reading.now.disk.disk in
    let e : Disk = c.args.reading.now.parts.disk in
    let older : Bool = c.in_ok-has_lost.is_older in
    inr (inl (
      older,
      subst (λ (b : Bool). Finds d e false older b) c.if-has_other.true
          (subst (λ (b : Bool). Finds d e b older c.in_ok-has_lost.has_other) c.if-has_lost.false c.in_ok-has_lost.ensures),
      c.save_named.ensures.made,
    ))

pub returns-then-is_older-clause-made : goal.returns-then-is_older-clause-made
returns-then-is_older-clause-made g c =
    let i : Disk = c.args.reading.now.image.disk in
    let d : Disk = c.args.reading.now.disk.disk in
    let e : Disk = c.args.reading.now.parts.disk in
    let old : Scene = g.H.Known.known c.args.host.now in
    let new : Scene = g.H.Known.known c.extract_mounted.new.host in
    let made : Option Fault = result_err c.extract_mounted.result in
    let told : made ≡ None = search rules in
    inl (whole_made c.args.dir.now old.tree old.made new i d e true (Some c.from.result.fault) (ap Some c.from.ensures)
    (found_so d e c.in_ok-has_lost.has_lost c.in_ok-has_lost.is_older true c.in_ok-has_lost.has_other c.if-has_lost.false c.if-is_older.true
    c.if-has_other.false c.in_ok-has_lost.ensures)
    (subst (EndsMaking i (path_text []) c.args.dir.now old.tree old.made new) told c.extract_mounted.ensures.made))

pub returns-clause-made : goal.returns-clause-made
returns-clause-made g c =
    let i : Disk = c.args.reading.now.image.disk in
    let d : Disk = c.args.reading.now.disk.disk in
    let e : Disk = c.args.reading.now.parts.disk in
    let old : Scene = g.H.Known.known c.args.host.now in
    let new : Scene = g.H.Known.known c.extract_mounted.new.host in
    let made : Option Fault = result_err c.extract_mounted.result in
    let told : made ≡ None = search rules in
    inl (whole_made c.args.dir.now old.tree old.made new i d e false None refl
    (found_so d e c.in_ok-has_lost.has_lost c.in_ok-has_lost.is_older false c.in_ok-has_lost.has_other c.if-has_lost.false c.if-is_older.false
    c.if-has_other.false c.in_ok-has_lost.ensures)
    (subst (EndsMaking i (path_text []) c.args.dir.now old.tree old.made new) told c.extract_mounted.ensures.made))
