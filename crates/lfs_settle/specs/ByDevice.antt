-- Bytes as a device reads them (own).
use Rattle.std.specs.Prelude.{ℕ, ◌≡◌, ◌⊎◌, List}
use Rattle.lfs_block.specs.Disk.{Disk, IsDisk, image_of}
use Rattle.lfs_block.specs.ImageFault.{IsNoImage}
use Rattle.lfs_block.specs.declared.image_fault.ImageFault.{ImageFault}
use Rattle.lfs_settle.specs.Relaid.{IsRelaidImage}

-- bytes of an image that is settled and then joined
abbrev pub AreRelaid : Disk → List ℕ → Type 0
AreRelaid d bytes = (f : Disk) × IsRelaidImage d f × (bytes ≡ f.bytes)

-- those of the image that they are, once it is settled and has one superblock; bytes that are no image stay
abbrev pub IsReadByDevice : ℕ → List ℕ → List ℕ → Type 0
IsReadByDevice size old new =
    (IsDisk (image_of size old) × AreRelaid (image_of size old) new) ⊎ ((fault : ImageFault) × IsNoImage fault size old × (new ≡ old))
