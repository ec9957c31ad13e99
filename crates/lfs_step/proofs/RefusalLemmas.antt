-- What refusals of contents and of packing say once the image mounts and the geometry is good.
use Rattle.std.proofs.Common.{ℕ, List}
use Rattle.lfs_block.specs.Geometry.{IsGeometry}
use Rattle.lfs_fs.specs.declared.limits.Limits.{Limits}
use Rattle.lfs_command.specs.declared.refusal.Refusal.{Refusal}
use Rattle.lfs_command.specs.declared.refusal.Refusal.TheVariants.{Memory}
use Rattle.lfs_pack.specs.declared.pack_row.PackRow.{PackRow}
use Rattle.lfs_pack.specs.Packed.{AreRowsOf, Packed}
use Rattle.lfs_pack.specs.Packing.{RefusesPack}
use Rattle.lfs_request.specs.declared.fault.Fault.TheVariants.{Refused}
use Rattle.lfs_step.specs.Outcome.{RefusesPacking}

-- rows of an image whose geometry is good
pub rows_refused : (size count : ℕ) (limits : Limits) (rows : List PackRow) → IsGeometry size count → (r : Refusal)
    → ((packed : List Packed) → AreRowsOf rows packed → RefusesPack size count limits packed r) → RefusesPacking size count limits rows (Refused r)
rows_refused size count limits rows is Memory refuses = tt
rows_refused size count limits rows is r refuses = (is, refuses)
