-- What is found at a path of an outline (own).
use Rattle.lfs_fs.specs.declared.found.Found.{Found}
use Rattle.lfs_fs.specs.declared.found.Found.TheVariants as case
use Rattle.lfs_fs.specs.Entry.{Entry}
use Rattle.lfs_fs.specs.Volume.{Volume}
use Rattle.lfs_fs.specs.Tree.{top}

-- the entry, or the root's of a volume
abbrev pub seen : Volume → Found → Entry
seen v case.Root = top v
seen v (case.Entry entry) = entry.now
