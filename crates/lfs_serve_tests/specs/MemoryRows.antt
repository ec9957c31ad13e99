-- What is read of a folder of a host in memory, and why not (own).
use Rattle.std.specs.Prelude.{◌≡◌, ◌⊎◌, ℕ, ⊤, List, true}
use Rattle.lfs_extract.specs.declared.folder_fault.FolderFault.{FolderFault}
use Rattle.lfs_extract.specs.declared.folder_fault.FolderFault.TheVariants.{HostEntry, CannotRead}
use Rattle.lfs_extract.specs.FolderRows.{HasTooMany}
use Rattle.lfs_host.specs.HostTree.{HostTree}
use Rattle.lfs_host.specs.declared.memory_host.MemoryHost.{MemoryHost}

-- nothing but files and folders is there; and `CannotRead` comes only where the host has refused something, or has too much
abbrev pub RefusesInMemory : HostTree → List ℕ → MemoryHost → FolderFault → Type 0
RefusesInMemory tree dir new HostEntry = ⊥
RefusesInMemory tree dir new CannotRead = (new.has_refused ≡ true) ⊎ HasTooMany tree dir
RefusesInMemory tree dir new _ = ⊤
