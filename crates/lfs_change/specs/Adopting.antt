-- An image that a device left, taken over (own).
use Rattle.std.specs.Prelude.{◌≡◌}
use Rattle.lfs_block.specs.Disk.{Disk}
use Rattle.lfs_fs.specs.Cause.{HasCause}
use Rattle.lfs_command.specs.declared.refusal.Refusal.TheVariants.{Memory}
use Rattle.lfs_history.specs.History.{IsHistory, fresh_history}
use Rattle.lfs_adopt.specs.Adopted.{IsAdoptedImage}
use Rattle.lfs_adopt.specs.Changed.{changed_blocks}
use Rattle.lfs_adopt.specs.Draft.{IsDraft, drafted}
use Rattle.lfs_request.specs.declared.fault.Fault.{Fault}
use Rattle.lfs_request.specs.declared.fault.Fault.TheVariants.{Mount, Refused}
use Rattle.lfs_change.specs.declared.adopting.Adoption.{Adoption}

-- the image with the blocks that are written anew
abbrev pub adopted_with : Disk → Adoption → Disk
adopted_with d adoption = drafted (record { base = d; blocks = adoption.blocks.items })

-- with them the image is taken over, it mounts, and these blocks of it differ
pub record IsAdoption (d : Disk) (adoption : Adoption) : Type 0 where
  pub draft : IsDraft (record { base = d; blocks = adoption.blocks.items })
  pub adopted : IsAdoptedImage d (adopted_with d adoption)
  pub history : IsHistory (fresh_history (adopted_with d adoption))
  pub changed : adoption.changed.items ≡ changed_blocks d (adopted_with d adoption)

-- why it isn't: a cause that it has once it is, or want of memory
abbrev pub RefusesAdopting : Disk → Fault → Type 0
RefusesAdopting d (Mount fault) = (e : Disk) × IsAdoptedImage d e × HasCause e fault
RefusesAdopting d (Refused refusal) = refusal ≡ Memory
RefusesAdopting d _ = ⊥
