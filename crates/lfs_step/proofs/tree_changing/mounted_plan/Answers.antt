-- What is planned is what the change asks for.
use Rattle.std.proofs.Common.{List, [], ◌∷◌, Some, subst, sym}
use Rattle.std.proofs.lemmas.Result.{IfOk-weaker}
use Rattle.lfs_command.specs.Command.{Asked, Mkdir, Put}
use Rattle.lfs_fs.specs.Tree.{tree}
use Rattle.lfs_fs.specs.Limits.{most_held}
use Rattle.lfs_request.specs.declared.tree_change.TreeChange.TheVariants as change
use Rattle.lfs_sync.specs.Shown.{held_of}
use Rattle.lfs_sync.specs.Synced.{put_commands, sync_commands}
use Rattle.lfs_sync.specs.Planned.{plan_asked}
use Rattle.lfs_sync.specs.declared.sync_row.SyncRow.{SyncRow}
use Rattle.lfs_step.specs.TreeChanging.{ChangeAsksFor}
use Rattle.lfs_step.proofs.Bounds.{bounded_asked, same_bound}
use Rattle.lfs_step.proofs.tree_changing.mounted_plan.Goals as goal

pub returns-in-Remove : goal.returns-in-Remove
returns-in-Remove c = rw c.in-Remove.is
    (IfOk-weaker c.remove_plan.result _ _ (λ plan is. record {
      mounted = c.args.mounted.now;
      mounts = c.requires.mounted;
      asks = subst (ChangeAsksFor (change.Remove c.in-Remove.path) c.args.image.now.disk c.args.mounted.now (tree c.requires.mounted.volume))
          (sym (same_bound [] plan.items)) (is c.args.image.now.disk []);
    }) c.remove_plan.ensures)

pub returns-in-Make : goal.returns-in-Make
returns-in-Make c = rw c.in-Make.is
    (IfOk-weaker c.make_plan.result _ _ (λ plan is. record {
      mounted = c.args.mounted.now;
      mounts = c.requires.mounted;
      asks = subst (ChangeAsksFor (change.Make c.in-Make.path) c.args.image.now.disk c.args.mounted.now (tree c.requires.mounted.volume))
          (sym (same_bound [] plan.items)) (is c.args.image.now.disk c.requires.mounted []);
    }) c.make_plan.ensures)

pub returns-in-Put : goal.returns-in-Put
returns-in-Put c =
    let rows : List SyncRow = record { path = c.in-Put.path; bytes = Some c.in-Put.bytes } ∷ [] in
    rw c.in-Put.is
    (IfOk-weaker c.put_plan.result _ _ (λ plan is. record {
      mounted = c.args.mounted.now;
      mounts = c.requires.mounted;
      asks = bounded_asked c.in-Put.most c.in-Put.path.now (Put c.in-Put.path.now c.in-Put.bytes.now most_held)
          (λ path. put_commands (tree c.requires.mounted.volume) path c.in-Put.bytes.now) (plan_asked rows plan.items)
          (is c.args.image.now.disk c.requires.mounted rows);
    }) c.put_plan.ensures)

pub returns-in-Sync : goal.returns-in-Sync
returns-in-Sync c = rw c.in-Sync.is
    (IfOk-weaker c.sync_plan.result _ _ (λ plan is. record {
      mounted = c.args.mounted.now;
      mounts = c.requires.mounted;
      asks = λ wanted folder. bounded_asked c.in-Sync.most c.in-Sync.path.now (Mkdir c.in-Sync.path.now)
          (λ path. sync_commands path (held_of c.args.image.now.disk path c.args.mounted.now.rows) wanted)
          (plan_asked c.in-Sync.rows.now plan.items) (is wanted folder);
    }) c.sync_plan.ensures)
