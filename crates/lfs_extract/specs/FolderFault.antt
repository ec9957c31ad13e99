-- What a host's refusals become (own).
use Rattle.lfs_extract.specs.declared.folder_fault.FolderFault.{FolderFault}
use Rattle.lfs_extract.specs.declared.folder_fault.FolderFault.TheVariants.{Memory, HostName, CannotRead}
use Rattle.lfs_host.specs.declared.read_fault.ReadFault.{ReadFault}
use Rattle.lfs_host.specs.declared.read_fault.ReadFault.TheVariants as reading
use Rattle.lfs_host.specs.declared.list_fault.ListFault.{ListFault}
use Rattle.lfs_host.specs.declared.list_fault.ListFault.TheVariants as listing

abbrev pub folder_fault_of : ReadFault → FolderFault
folder_fault_of reading.Memory = Memory
folder_fault_of reading.CannotRead = CannotRead

abbrev pub fault_of_listing : ListFault → FolderFault
fault_of_listing listing.Memory = Memory
fault_of_listing listing.NotText = HostName
fault_of_listing listing.CannotRead = CannotRead
