-- A fault other than want of memory says something of the image.
use Rattle.std.proofs.Common.{◌≡◌, refl}
use Rattle.lfs_block.specs.declared.mount_fault.MountFault.{MountFault}
use Rattle.lfs_block.specs.declared.mount_fault.MountFault.TheVariants.{Memory}
use Rattle.lfs_fs.specs.Cause.{IsOfFormat}
use Rattle.lfs_find.proofs.judging.fault_of.Goals as goal

of_format : (fault : MountFault) → (fault ≡ Memory → ⊥) → IsOfFormat fault
of_format Memory other = absurd (other refl)
of_format _ other = tt

pub returns-in_default-fault : goal.returns-in_default-fault
returns-in_default-fault c = record {
  mounts = tt;
  cause = (of_format c.in-Err.fault c.in_default-fault.not-Memory, c.in-Err.ensures.refused);
}
