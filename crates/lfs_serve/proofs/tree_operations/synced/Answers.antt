-- A folder isn't read, or the image is made like it.
use Rattle.std.proofs.Common.{◌≡◌, ◌∙◌, List, refl, sym, subst, inl, inr, map, false}
use Rattle.std.proofs.lemmas.Result.{err_from_is_err_and}
use Rattle.lfs_command.specs.declared.refusal.Refusal.TheVariants.{Memory as No_memory}
use Rattle.lfs_exchange.specs.declared.step_kind.StepKind.TheVariants.{Changes}
use Rattle.lfs_extract.specs.declared.folder_row.FolderRow.{FolderRow}
use Rattle.lfs_extract.specs.FolderRows.{IsFolder}
use Rattle.lfs_fs.specs.Limits.{most_file}
use Rattle.lfs_host.specs.Scene.{Scene}
use Rattle.lfs_report.specs.Stop.{stopped_by}
use Rattle.lfs_request.specs.declared.fault.Fault.TheVariants.{Refused}
use Rattle.lfs_request.specs.declared.tree_change.TreeChange.TheVariants.{Sync}
use Rattle.lfs_step.specs.declared.step.Step.TheVariants.{Tree}
use Rattle.lfs_sync.specs.Shown.{wanted_of}
use Rattle.lfs_sync.specs.declared.sync_row.SyncRow.{SyncRow}
use Rattle.lfs_serve.specs.Program.{as_it_is}
use Rattle.lfs_serve.specs.Trees.{SyncsFolder}
use Rattle.lfs_serve.proofs.HostFolderLemmas.{wants_memory}
use Rattle.lfs_serve.proofs.TreeLemmas.{folded_by}
use Rattle.lfs_open.proofs.StopLemmas.{stopped_at}
use Rattle.lfs_serve.proofs.StepLemmas.{step_from}
use Rattle.lfs_serve.proofs.tree_operations.synced.Goals as goal

pub change_taken-requires-clause-keep : goal.change_taken-requires-clause-keep
change_taken-requires-clause-keep g c = c.requires

pub change_taken-requires-clause-range : goal.change_taken-requires-clause-range
change_taken-requires-clause-range g c =
    let old : Scene = g.H.Known.known c.args.host.now in
    let dir = c.args.dir.now in
    let folder = c.deref.result.now in
    let folder_is : folder ≡ c.in_ok-folder.folder.items = c.deref.ensures.value in
    let read = subst (λ (rs : List FolderRow). IsFolder most_file old.tree dir rs) (sym folder_is) c.in_ok-folder.ensures.read in
    let rows_is : c.as_slice.result.now ≡ c.in_ok-rows.rows.items = c.as_slice.ensures.value in
    let folded = subst (λ (rs : List SyncRow). SyncsFolder old.tree dir rs) (sym rows_is)
    (folded_by old.tree dir folder c.in_ok-rows.rows.items read c.in_ok-rows.ensures) in
    (map wanted_of folded.shown, folded.rows_are)

pub returns-in_err-folder-clause-ended : goal.returns-in_err-folder-clause-ended
returns-in_err-folder-clause-ended g c =
    let fault = c.in_err-folder.field-0.0 in
    let p = err_from_is_err_and c.from_residual.result c.from_residual.ensures.1 in
    let kept = c.folder_of.ensures.kept in
    inr ((kept.0.0, kept.0.2), (fault, stopped_at c.from_residual.result fault p.0 p.1 p.2, inl c.in_err-folder.ensures.refused))

pub returns-in_err-rows-clause-ended : goal.returns-in_err-rows-clause-ended
returns-in_err-rows-clause-ended g c =
    let p = err_from_is_err_and c.from_residual-in_err-rows.result c.from_residual-in_err-rows.ensures.1 in
    let kept = c.folder_of.ensures.kept in
    inr (
      (kept.0.0, kept.0.2),
      (
        Refused No_memory,
        stopped_at c.from_residual-in_err-rows.result (Refused No_memory) p.0 p.1 p.2,
        inl (wants_memory (g.H.Known.known c.args.host.now).tree c.args.dir.now (g.H.Known.known c.folder_of.new.host)),
      ),
    )

pub returns-clause-ended : goal.returns-clause-ended
returns-clause-ended g c =
    let old : Scene = g.H.Known.known c.args.host.now in
    let mid : Scene = g.H.Known.known c.folder_of.new.host in
    let new : Scene = g.H.Known.known c.change_taken.new.host in
    let request = c.args.request.now in
    let dir = c.args.dir.now in
    let folder = c.deref.result.now in
    let folder_is : folder ≡ c.in_ok-folder.folder.items = c.deref.ensures.value in
    let read = subst (λ (rs : List FolderRow). IsFolder most_file old.tree dir rs) (sym folder_is) c.in_ok-folder.ensures.read in
    let rows_is : c.as_slice.result.now ≡ c.in_ok-rows.rows.items = c.as_slice.ensures.value in
    let folded = subst (λ (rs : List SyncRow). SyncsFolder old.tree dir rs) (sym rows_is)
    (folded_by old.tree dir folder c.in_ok-rows.rows.items read c.in_ok-rows.ensures) in
    let kept = c.folder_of.ensures.kept in
    let change = Sync c.args.path c.as_slice.result c.args.most in
    elim c.change_taken.ensures.ended [
      | inl ends ↦ inl (
        Tree change c.args.keep,
        ((refl, refl, folded), refl),
        step_from (Tree change c.args.keep) (as_it_is false) request.size request.image.now mid old new
            (stopped_by c.change_taken.result) kept.0.0 kept.0.2 ends,
      )
      | inr not ↦
          inr (
            (not.0.0 ∙ kept.0.0, not.0.1 ∙ kept.0.2),
            (not.1.0, not.1.1, inr (Changes, (refl, (c.as_slice.result.now, folded)), not.1.2)),
          )
    ]

pub returns-in_err-folder-clause-rest : goal.returns-in_err-folder-clause-rest
returns-in_err-folder-clause-rest g c =
    let kept = c.folder_of.ensures.kept in
    ((λ _. kept.0.1), (λ _. kept.2))

pub returns-in_err-rows-clause-rest : goal.returns-in_err-rows-clause-rest
returns-in_err-rows-clause-rest g c =
    let kept = c.folder_of.ensures.kept in
    ((λ _. kept.0.1), (λ _. kept.2))

pub returns-clause-rest : goal.returns-clause-rest
returns-clause-rest g c =
    let first = c.folder_of.ensures.kept in
    ((λ _. c.change_taken.ensures.typed ∙ first.0.1), (λ _. c.change_taken.ensures.made ∙ first.2))
