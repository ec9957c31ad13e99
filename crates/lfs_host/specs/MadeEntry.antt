-- What was made on a host in memory (own).
use Rattle.std.specs.Prelude.{string_bytes}
use Rattle.lfs_host.specs.NewFolder.{Made, FileMade, FolderMade}
use Rattle.lfs_host.specs.declared.made_entry.MadeEntry.{MadeEntry}
use Rattle.lfs_host.specs.declared.made_entry.MadeEntry.TheVariants.{File, Folder}

-- a folder of its name, or a file of its name with its bytes
abbrev pub made_as : MadeEntry → Made
made_as (Folder name) = FolderMade (string_bytes name)
made_as (File name bytes) = FileMade (string_bytes name) bytes.items
