-- An image that has an outline mounts and has no cause, so the fault is want of memory; it has one outline.
use Rattle.std.proofs.Common.{◌≡◌, refl, sym, subst}
use Rattle.lfs_block.specs.declared.mount_fault.MountFault.{MountFault}
use Rattle.lfs_block.specs.declared.mount_fault.MountFault.TheVariants.{Memory}
use Rattle.lfs_fs.specs.Tree.{tree}
use Rattle.lfs_fs.specs.Cause.{IsOfFormat}
use Rattle.lfs_fs.specs.Mounted.{IsOutlineOf}
use Rattle.lfs_fs.proofs.OutliningLemmas.{mounted_outline, one_outline}
use Rattle.lfs_fs.proofs.outlining.outline_of.Goals as goal

of_format : (fault : MountFault) → (fault ≡ Memory → ⊥) → IsOfFormat fault
of_format Memory other = absurd (other refl)
of_format _ other = tt

pub unreachable-requires : goal.unreachable-requires
unreachable-requires g c =
    let is = c.requires.outline.1 in
    c.mounted_images_have_no_cause.ensures (g.B.Blocks.disk c.args.blocks.now) (tree is.volume) c.in-Err.fault c.size-size.ensures.disk
    (is.volume, is.holds, is.sound, λ path. refl) (of_format c.in-Err.fault c.in_default.not-Memory) c.in-Err.ensures.refused

pub returns-in-Ok-clause-read : goal.returns-in-Ok-clause-read
returns-in-Ok-clause-read g c = subst (IsOutlineOf (g.B.Blocks.disk c.args.blocks.now)) (sym c.into_outline.ensures)
    (mounted_outline _ _ c.in-Ok.ensures.mounted)

pub returns-in-Ok-clause-only : goal.returns-in-Ok-clause-only
returns-in-Ok-clause-only g c =
    let d = g.B.Blocks.disk c.args.blocks.now in
    let is : IsOutlineOf d c.into_outline.result = subst (IsOutlineOf d) (sym c.into_outline.ensures)
    (mounted_outline d c.in-Ok.mounted c.in-Ok.ensures.mounted) in
    one_outline c.images_mount_to_one_tree.ensures.volume d c.into_outline.result is
