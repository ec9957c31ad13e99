-- A folder isn't read, or the image's file isn't at hand, or the folder is packed.
use Rattle.std.proofs.Common.{◌≡◌, List, refl, sym, subst, ◌∙◌, inl, inr}
use Rattle.std.proofs.lemmas.Result.{err_from_is_err_and}
use Rattle.lfs_command.specs.declared.refusal.Refusal.TheVariants.{Memory as No_memory}
use Rattle.lfs_request.specs.declared.fault.Fault.TheVariants.{Refused}
use Rattle.lfs_exchange.specs.declared.step_kind.StepKind.TheVariants.{Makes}
use Rattle.lfs_extract.specs.declared.folder_row.FolderRow.{FolderRow}
use Rattle.lfs_extract.specs.FolderRows.{IsFolder}
use Rattle.lfs_fs.specs.Limits.{most_file}
use Rattle.lfs_host.specs.Scene.{Scene}
use Rattle.lfs_pack.specs.declared.pack_row.PackRow.{PackRow}
use Rattle.lfs_report.specs.Stop.{stopped_by}
use Rattle.lfs_step.specs.declared.step.Step.TheVariants.{Pack}
use Rattle.lfs_open.specs.HostFolder.{PacksFolder}
use Rattle.lfs_serve.specs.Program.{as_it_is}
use Rattle.lfs_serve.proofs.HostFolderLemmas.{packs, wants_memory}
use Rattle.lfs_open.proofs.StopLemmas.{stopped_at}
use Rattle.lfs_serve.proofs.StepLemmas.{step_at}
use Rattle.lfs_serve.proofs.packing.packed.Goals as goal

pub returns-in_err-folder-clause-ended : goal.returns-in_err-folder-clause-ended
returns-in_err-folder-clause-ended g c =
    let fault = c.in_err-folder.field-0.0 in
    let p = err_from_is_err_and c.from_residual.result c.from_residual.ensures.1 in
    let kept = c.folder_of.ensures.kept in
    inr ((kept.0.0, kept.0.2), (fault, stopped_at c.from_residual.result fault p.0 p.1 p.2, inl c.in_err-folder.ensures.refused))

pub returns-in_err-rows-clause-ended : goal.returns-in_err-rows-clause-ended
returns-in_err-rows-clause-ended g c =
    let p = err_from_is_err_and c.from_residual-in_err-rows.result c.from_residual-in_err-rows.ensures.1 in
    let kept = c.folder_of.ensures.kept in
    inr (
      (kept.0.0, kept.0.2),
      (
        Refused No_memory,
        stopped_at c.from_residual-in_err-rows.result (Refused No_memory) p.0 p.1 p.2,
        inl (wants_memory (g.H.Known.known c.args.host.now).tree c.args.dir.now (g.H.Known.known c.folder_of.new.host)),
      ),
    )

pub returns-in_err-count-clause-ended : goal.returns-in_err-count-clause-ended
returns-in_err-count-clause-ended g c =
    let p = err_from_is_err_and c.from_residual-in_err-count.result c.from_residual-in_err-count.ensures.1 in
    let kept = c.folder_of.ensures.kept in
    inr (
      (kept.0.0, kept.0.2),
      (
        Refused No_memory,
        stopped_at c.from_residual-in_err-count.result (Refused No_memory) p.0 p.1 p.2,
        inl (wants_memory (g.H.Known.known c.args.host.now).tree c.args.dir.now (g.H.Known.known c.folder_of.new.host)),
      ),
    )

pub returns-in_err-handed-clause-ended : goal.returns-in_err-handed-clause-ended
returns-in_err-handed-clause-ended g c =
    let old : Scene = g.H.Known.known c.args.host.now in
    let rows = c.in_ok-rows.rows.items in
    let folder = c.deref.result.now in
    let folder_is : folder ≡ c.in_ok-folder.folder.items = c.deref.ensures.value in
    let read = subst (λ (rs : List FolderRow). IsFolder most_file old.tree c.args.dir.now rs) (sym folder_is) c.in_ok-folder.ensures.read in
    let packed = packs c.args.most old.tree c.args.dir.now folder rows read c.in_ok-rows.ensures in
    let fault = c.in_err-handed.field-0.0 in
    let on = c.from_residual-in_err-handed in
    let p = err_from_is_err_and on.result on.ensures.1 in
    let first = c.folder_of.ensures.kept.0 in
    let then = c.taken_up.ensures.kept.0 in
    inr (
      (then.0 ∙ first.0, then.2 ∙ first.2),
      (fault, stopped_at on.result fault p.0 p.1 p.2, inr (Makes, (refl, (rows, packed)), c.in_err-handed.ensures.refused)),
    )

pub returns-clause-ended : goal.returns-clause-ended
returns-clause-ended g c =
    let old : Scene = g.H.Known.known c.args.host.now in
    let mid : Scene = g.H.Known.known c.taken_up.new.host in
    let new : Scene = g.H.Known.known c.stepped-end.new.host in
    let request = c.args.request.now in
    let dir = c.args.dir.now in
    let rows = c.in_ok-rows.rows.items in
    let folder = c.deref.result.now in
    let folder_is : folder ≡ c.in_ok-folder.folder.items = c.deref.ensures.value in
    let read = subst (λ (rs : List FolderRow). IsFolder most_file old.tree dir rs) (sym folder_is) c.in_ok-folder.ensures.read in
    let rows_is : c.as_slice-rows.result.now ≡ rows = c.as_slice-rows.ensures.value in
    let packed = subst (λ (rs : List PackRow). PacksFolder old.tree dir c.args.most rs) (sym rows_is) (packs c.args.most old.tree dir folder rows read c.in_ok-rows.ensures) in
    let step = Pack c.in_ok-count.count c.args.limits c.as_slice-rows.result in
    let first = c.folder_of.ensures.kept.0 in
    let then = c.taken_up.ensures.kept.0 in
    let ends = step_at step (as_it_is request.takes_older) request.size request.image.now mid old new (stopped_by c.told.result) (stopped_by c.stepped-end.result)
    (then.0 ∙ first.0) (then.2 ∙ first.2) c.told.ensures c.stepped-end.ensures.ended in
    inl (step, (packed, c.in_ok-count.ensures, refl), ends)

pub returns-in_err-folder-clause-rest : goal.returns-in_err-folder-clause-rest
returns-in_err-folder-clause-rest g c =
    let kept = c.folder_of.ensures.kept in
    ((λ _. kept.0.1), (λ _. kept.2))

pub returns-in_err-rows-clause-rest : goal.returns-in_err-rows-clause-rest
returns-in_err-rows-clause-rest g c =
    let kept = c.folder_of.ensures.kept in
    ((λ _. kept.0.1), (λ _. kept.2))

pub returns-in_err-count-clause-rest : goal.returns-in_err-count-clause-rest
returns-in_err-count-clause-rest g c =
    let kept = c.folder_of.ensures.kept in
    ((λ _. kept.0.1), (λ _. kept.2))

pub returns-in_err-handed-clause-rest : goal.returns-in_err-handed-clause-rest
returns-in_err-handed-clause-rest g c =
    let first = c.folder_of.ensures.kept in
    let then = c.taken_up.ensures.kept in
    ((λ _. then.0.1 ∙ first.0.1), (λ _. then.2 ∙ first.2))

pub returns-clause-rest : goal.returns-clause-rest
returns-clause-rest g c =
    let first = c.folder_of.ensures.kept in
    let then = c.taken_up.ensures.kept in
    ((λ _. c.stepped-end.ensures.typed ∙ then.0.1 ∙ first.0.1), (λ _. c.stepped-end.ensures.made ∙ then.2 ∙ first.2))

pub stepped-end-requires-clause-kind : goal.stepped-end-requires-clause-kind
stepped-end-requires-clause-kind g c = c.in_ok-handed.ensures.kind

pub stepped-end-requires-clause-target : goal.stepped-end-requires-clause-target
stepped-end-requires-clause-target g c = c.in_ok-handed.ensures.target

pub stepped-end-requires-clause-claimed : goal.stepped-end-requires-clause-claimed
stepped-end-requires-clause-claimed g c = c.in_ok-handed.ensures.claimed

pub stepped-end-requires-clause-handed : goal.stepped-end-requires-clause-handed
stepped-end-requires-clause-handed g c = c.in_ok-handed.ensures.handed
