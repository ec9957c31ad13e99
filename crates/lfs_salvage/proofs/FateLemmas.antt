-- What becomes of files.
use Rattle.std.proofs.Common.{◌≡◌, ◌≢◌, ℕ, List, None, refl, ap, sym}
use Rattle.lfs_block.specs.Disk.{Disk}
use Rattle.lfs_block.specs.declared.mount_fault.MountFault.{MountFault}
use Rattle.lfs_block.specs.declared.mount_fault.MountFault.TheVariants.{BadSkipList, Memory}
use Rattle.lfs_file.specs.SkipList.{ChainCause, chain_of}
use Rattle.lfs_salvage.specs.Fate.{Lost, chain_fate}
use Rattle.lfs_salvage.specs.declared.block_use.BlockUse.{BlockUse}

no_chain : (d : Disk) (fault : MountFault) (head size : ℕ) → ChainCause fault d head size → fault ≢ Memory → chain_of d head size ≡ None
no_chain d BadSkipList head size why other = why.0
no_chain d Memory head size why other = absurd (other refl)
no_chain d _ head size why other = absurd why

-- a file without a chain is lost
pub chainless : (d : Disk) (uses : List BlockUse) (fault : MountFault) (head size : ℕ) → ChainCause fault d head size → fault ≢ Memory
    → Lost BadSkipList ≡ chain_fate uses head size (chain_of d head size)
chainless d uses fault head size why other = ap (chain_fate uses head size) (sym (no_chain d fault head size why other))
