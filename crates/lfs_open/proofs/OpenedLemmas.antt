-- The image that bytes are, opened.
use Rattle.std.proofs.Common.{◌≡◌, ◌⊎◌, ◌∙◌, ℕ, List, Result, Ok, Err, IfErr, sym, ap, subst, inl, inr, ◌*◌, ap₂, arith, mul_comm, Fits, w32}
use Rattle.lfs_block.specs.Disk.{Disk, IsDisk, image_of}
use Rattle.lfs_block.proofs.BytesLemmas.{image_of_disk}
use Rattle.lfs_command.specs.declared.refusal.Refusal.TheVariants.{Memory}
use Rattle.lfs_fs.specs.Cause.{HasCause}
use Rattle.lfs_report.specs.declared.stop.Stop.{Stop}
use Rattle.lfs_request.specs.declared.fault.Fault.TheVariants.{Refused}
use Rattle.lfs_open.specs.Opened.{RefusesMounting}
use Rattle.lfs_open.specs.Repacking.{JudgesSource}
use Rattle.lfs_open.specs.declared.opened.Opened.{Opened}

-- a disk is that of its bytes
pub disk_is : (size : ℕ) (bytes : List ℕ) (d : Disk) → IsDisk d → d.size ≡ size → d.bytes ≡ bytes → d ≡ image_of size bytes
disk_is size bytes d is size_is bytes_are =
    sym (image_of_disk d is) ∙ ap (λ (n : ℕ). image_of n d.bytes) size_is ∙ ap (image_of size) bytes_are

-- what one that isn't opened is refused for is a cause of its bytes
pub judged : (size : ℕ) (bytes : List ℕ) (d : Disk) → IsDisk d → d ≡ image_of size bytes → (r : Result Opened Stop)
    → IfErr r (λ stop. (stop.fault ≡ Refused Memory) ⊎ RefusesMounting d stop.fault)
    → IfErr r (λ stop. (stop.fault ≡ Refused Memory) ⊎ JudgesSource size bytes stop.fault)
judged size bytes d is same (Ok o) refused = tt
judged size bytes d is same (Err stop) (inl memory) = inl memory
judged size bytes d is same (Err stop) (inr (cause, for, has)) =
    let at = subst (λ (e : Disk). IsDisk e) same is in
    inr (subst (JudgesSource size bytes) (sym for) (at, subst (λ (e : Disk). HasCause e cause) same has))

-- an image has fewer bytes than a number of 32 bits counts
pub image_fits : (d : Disk) (size count : ℕ) → IsDisk d → size ≡ d.size → count ≡ d.count → Fits w32 (size * count)
image_fits d size count is size_is count_is =
    let same : size * count ≡ d.count * d.size = ap₂ (λ (n k : ℕ). n * k) size_is count_is ∙ mul_comm d.size d.count in
    omega (arith, same, is.geometry.length_fits)
