use Rattle.std.proofs.Common.{take}
use Rattle.lfs_fs.specs.DirectoryTable.{IsTableOf}
use Rattle.lfs_fs.proofs.directory_table.table_of.Given as goal

-- the table is of the directories so far
abbrev pub invariant-loop-index : goal.invariant-loop-index
invariant-loop-index l = IsTableOf (take l.index l.directories) l.table.entries
