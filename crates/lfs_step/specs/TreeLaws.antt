-- What a change of a whole tree makes of the tree (own).
use Rattle.std.specs.Prelude.{◌≡◌, ℕ, List, Option, None}
use Rattle.lfs_block.specs.Disk.{Disk, image_of}
use Rattle.lfs_fs.specs.Mounts.{Mounts}
use Rattle.lfs_fs.specs.Path.{IsPathText, Path}
use Rattle.lfs_fs.specs.Tree.{Node}
use Rattle.lfs_request.specs.declared.outcome.Outcome.{Outcome}
use Rattle.lfs_request.specs.declared.tree_change.TreeChange.TheVariants as change
use Rattle.lfs_step.specs.declared.step.Step.TheVariants.{Tree}
use Rattle.lfs_step.specs.Outcome.{Answers, Given}
use Rattle.lfs_step.specs.TreeChanging.{Changing, IsChangeInRange}
use Rattle.lfs_sync.specs.Synced.{synced, with_file, with_parents, without_below}

-- the text of its path
abbrev pub text_of : Changing → List ℕ
text_of (change.Remove at) = at.now
text_of (change.Make at) = at.now
text_of (change.Put at bytes most) = at.now
text_of (change.Sync at rows most) = at.now

-- the tree that a change says at its path: without_below what is there, with a directory or a file there, or with what the folder has
abbrev pub said : (changing : Changing) → IsChangeInRange changing → Path → (Path → Option Node) → Path → Option Node
said (change.Remove at) range path tree = without_below path tree
said (change.Make at) range path tree = with_parents path tree
said (change.Put at bytes most) range path tree = with_file path bytes.now tree
said (change.Sync at rows most) range path tree = synced path range.0 tree

-- its text spells a path, and an image mounts to the tree that it says there
pub record IsAsSaid (changing : Changing) (range : IsChangeInRange changing) (tree : Path → Option Node) (e : Disk) : Type 0 where
  pub path : Path
  pub spelled : IsPathText (text_of changing) path
  pub mounts : Mounts e (said changing range path tree)

-- the law: on an image that mounts to a tree, an accepted change leaves one that mounts to the tree that the change says
abbrev pub TreesAreChanged : Type 0
TreesAreChanged = (changing : Changing) (range : IsChangeInRange changing) (keep : Option ℕ) (g : Given) (outcome : Outcome)
    (tree : Path → Option Node) → Mounts (image_of g.size g.image) tree → Answers (Tree changing keep) g outcome → outcome.fault ≡ None
    → IsAsSaid changing range tree (image_of g.size outcome.image.items)

-- a file is put whatever is there
abbrev pub PutsFile : Changing → Type 0
PutsFile (change.Put at bytes most) = Unit {0}
PutsFile _ = ⊥

-- the law: where the tree is what an accepted change says, the image stays byte for byte; but a file is put
abbrev pub EqualTreesStay : Type 0
EqualTreesStay = (changing : Changing) (range : IsChangeInRange changing) (keep : Option ℕ) (g : Given) (outcome : Outcome)
    (tree : Path → Option Node) (path : Path) → Mounts (image_of g.size g.image) tree → Answers (Tree changing keep) g outcome
    → outcome.fault ≡ None → IsPathText (text_of changing) path → ¬ PutsFile changing
    → ((p : Path) → said changing range path tree p ≡ tree p) → outcome.image.items ≡ g.image
