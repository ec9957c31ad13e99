-- Laws of trees that become what a folder holds (own).
use Rattle.std.specs.Prelude.{is_some, true, ◌≡◌, ℕ, List, [], ◌∷◌, ◌++◌, All, Option, map}
use Rattle.std.specs.List.{AllZip}
use Rattle.lfs_block.specs.Disk.{Disk, IsDisk}
use Rattle.lfs_meta.specs.Name.{Name}
use Rattle.lfs_extract.specs.FolderRows.{AreFolderRows, PathRow}
use Rattle.lfs_fs.specs.Mounted.{IsMountOf, MountedValue}
use Rattle.lfs_fs.specs.Path.{Path}
use Rattle.lfs_fs.specs.Tree.{Node, tree}
use Rattle.lfs_fs.specs.Volume.{Volume}
use Rattle.lfs_command.specs.Command.{Command, HasNames, Spells}
use Rattle.lfs_command.specs.Verdict.{is_directory}
use Rattle.lfs_sync.specs.Planned.{in_texts}
use Rattle.lfs_sync.specs.Shown.{AreHeld, AreWanted, Shown, held_of, wanted_of}
use Rattle.lfs_sync.specs.Synced.{equations_of, make_commands, put_commands, remove_commands, sync_commands, synced, with_file, with_parents}
use Rattle.lfs_sync.specs.Synced.{without_below}

-- the law: the commands' equations_of, one after another, make the tree with what the rows say at and below the path
abbrev pub SyncedIsTheFolder : Type 0
SyncedIsTheFolder = (tree : Path → Option Node) (at : Path) (held wanted : List Shown) → AreHeld tree at held → AreWanted wanted
    → (path : Path) → equations_of (sync_commands at held wanted) tree path ≡ synced at wanted tree path

-- the law: what is equal isn't touched: where both show the same, attributes aside, there is no command
abbrev pub EqualNeedsNothing : Type 0
EqualNeedsNothing = (tree : Path → Option Node) (at : Path) (held wanted : List Shown) → AreHeld tree at held → AreWanted wanted
    → ((path : Path) → synced at wanted tree path ≡ tree path) → sync_commands at held wanted ≡ []

-- the law: what is at the path and below is gone, and all else is as it was
abbrev pub RemovedIsWithout : Type 0
RemovedIsWithout = (tree : Path → Option Node) (n : Name) (at : Path) (held : List Shown) → AreHeld tree (n ∷ at) held
    → (path : Path) → equations_of (remove_commands (n ∷ at) held) tree path ≡ without_below (n ∷ at) tree path

-- what is there is in a directory that is there
abbrev pub IsRooted : (Path → Option Node) → Type 0
IsRooted tree = (p : Path) (n : Name) → is_some (tree (p ++ n ∷ [])) ≡ true → is_directory (tree p) ≡ true

-- the law: the path and its parents are directories, where no file is at the path
abbrev pub MadeIsWithParents : Type 0
MadeIsWithParents = (tree : Path → Option Node) (to : Path) → is_directory (tree []) ≡ true → IsRooted tree
    → is_some (tree to) ≡ is_directory (tree to) → (path : Path) → equations_of (make_commands tree to) tree path ≡ with_parents to tree path

-- the law: a file is at the path with the bytes, and its parents are directories
abbrev pub PutIsWithFile : Type 0
PutIsWithFile = (tree : Path → Option Node) (to : Path) (bytes : List ℕ) → is_directory (tree []) ≡ true
    → (path : Path) → equations_of (put_commands tree to bytes) tree path ≡ with_file to bytes tree path

-- the law: the texts of commands whose paths are made of names spell these commands alone
abbrev pub TextsSpellTheirCommands : Type 0
TextsSpellTheirCommands = (commands others : List Command) → All HasNames commands → AllZip Spells (in_texts commands) others
    → others ≡ commands

-- the law: a volume's tree has a directory at its root, and each other path in a directory
abbrev pub TreesAreRooted : Type 0
TreesAreRooted = (v : Volume) → (is_directory (tree v []) ≡ true) × IsRooted (tree v)

-- the law: the rows of a mounted image at a path and below are those of its tree
abbrev pub RowsAreHeld : Type 0
RowsAreHeld = (d : Disk) (m : MountedValue) (is : IsMountOf d m) (at : Path) → IsDisk d → AreHeld (tree is.volume) at (held_of d at m.rows)

-- the law: the rows of a host's folder are those that a part of a tree becomes
abbrev pub FoldersAreWanted : Type 0
FoldersAreWanted = (rows : List PathRow) → AreFolderRows rows → AreWanted (map wanted_of rows)
