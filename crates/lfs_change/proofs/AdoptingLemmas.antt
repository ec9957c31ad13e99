-- An image that is taken over mounts, or has a cause.
use Rattle.std.proofs.Common.{◌≡◌, List, refl, ap₂, sym, subst, arith}
use Rattle.std.specs.Prelude.{Option}
use Rattle.lfs_block.specs.Disk.{Disk, IsDisk}
use Rattle.lfs_block.specs.declared.mount_fault.MountFault.{MountFault}
use Rattle.lfs_block.specs.declared.mount_fault.MountFault.TheVariants.{Memory as No_memory}
use Rattle.lfs_fs.specs.Cause.{HasCause}
use Rattle.lfs_fs.specs.Mounted.{IsMountOf, MountedValue}
use Rattle.lfs_history.specs.History.{IsHistory, fresh_history}
use Rattle.lfs_adopt.specs.Adopted.{IsAdoptedImage}
use Rattle.lfs_adopt.specs.Changed.{changed_blocks}
use Rattle.lfs_adopt.specs.Draft.{Drafted, IsDraft, drafted}
use Rattle.lfs_request.specs.Fault.{fault_of_mount}
use Rattle.lfs_change.specs.Adopting.{IsAdoption, RefusesAdopting}
use Rattle.lfs_change.specs.declared.adopting.Adoption.{Adoption}

-- an image that mounts has a history, of one image
fresh_is : (d : Disk) (m : MountedValue) → IsDisk d → IsMountOf d m → IsHistory (fresh_history d)
fresh_is d m disk is = record {
  past = refl;
  future = refl;
  back = tt;
  on = tt;
  disk = disk;
  mounts = (is.volume, is.holds, is.sound);
  past_mounts = tt;
  future_mounts = tt;
  few = omega arith;
}

pub adopts : (d : Disk) (f : Drafted) (a : Adoption) (m : MountedValue) → f.base ≡ d → a.blocks.items ≡ f.blocks → IsDraft f
    → IsAdoptedImage d (drafted f) → IsMountOf (drafted f) m → a.changed.items ≡ changed_blocks d (drafted f) → IsAdoption d a
adopts d f a m base blocks draft adopted mounts changed =
    let g : Drafted = record { base = d; blocks = a.blocks.items } in
    let same : f ≡ g = ap₂ (λ b os. record { base = b; blocks = os }) base (sym blocks) in
    record {
      draft = subst IsDraft same draft;
      adopted = subst (λ (h : Drafted). IsAdoptedImage d (drafted h)) same adopted;
      history = subst (λ (h : Drafted). IsHistory (fresh_history (drafted h))) same (fresh_is (drafted f) m adopted.disk mounts);
      changed = subst (λ (h : Drafted). a.changed.items ≡ changed_blocks d (drafted h)) same changed;
    }

pub adopts_none : (f : MountFault) (d e : Disk) → IsAdoptedImage d e → HasCause e f → RefusesAdopting d (fault_of_mount f)
adopts_none No_memory d e adopted cause = refl
adopts_none f d e adopted cause = (e, adopted, cause)
