-- What a change of a whole tree is on an image (own).
use Rattle.std.specs.Borrow.{Bor}
use Rattle.std.specs.Prelude.{◌≡◌, ◌⊎◌, ℕ, List, [], ◌∷◌, Option, Some, map}
use Rattle.lfs_block.specs.Disk.{Disk, image_of}
use Rattle.lfs_command.specs.Command.{Asked, Command, Mkdir, Put, Rm, bounded}
use Rattle.lfs_fs.specs.Limits.{most_held}
use Rattle.lfs_fs.specs.Mounted.{MountedValue, IsMountOf}
use Rattle.lfs_fs.specs.Path.{IsNoPath, IsPathText, Path}
use Rattle.lfs_fs.specs.Tree.{Node, tree}
use Rattle.lfs_history.specs.Batch.{TakesAll}
use Rattle.lfs_history.specs.History.{History}
use Rattle.lfs_history.specs.Taking.{Together}
use Rattle.lfs_request.specs.declared.fault.Fault.{Fault}
use Rattle.lfs_request.specs.declared.tree_change.TreeChange.{TreeChange}
use Rattle.lfs_request.specs.declared.tree_change.TreeChange.TheVariants as change
use Rattle.lfs_change.specs.Change.{RefusesChange}
use Rattle.lfs_sync.specs.Planned.{in_texts, plan_asked}
use Rattle.lfs_sync.specs.Shown.{Shown, held_of}
use Rattle.lfs_sync.specs.SyncRows.{AreRowsOfFolder, SayFolder}
use Rattle.lfs_sync.specs.Synced.{make_commands, put_commands, remove_commands, sync_commands}
use Rattle.lfs_sync.specs.declared.planned.Planned.{Planned}
use Rattle.lfs_sync.specs.declared.sync_row.SyncRow.{SyncRow}

-- a change of a tree with all bytes in hand
abbrev pub Changing : Type 0
Changing = TreeChange (Bor (List ℕ)) (Bor (List SyncRow))

-- the commands of the path that a text spells; where it spells none, one on that text, which is refused for it
abbrev pub IsAskedOf : List ℕ → Asked → (Path → List Command) → List Asked → Type 0
IsAskedOf text wrong commands asked =
    ((path : Path) × IsPathText text path × (asked ≡ in_texts (commands path)))
    ⊎ (IsNoPath text × (asked ≡ wrong ∷ []))

-- the commands that a change is on an image that mounts to this, which shows the tree
abbrev pub ChangeAsksFor : Changing → Disk → MountedValue → (Path → Option Node) → List Asked → Type 0
ChangeAsksFor (change.Remove at) d m t asked = IsAskedOf at.now (Rm at.now) (λ path. remove_commands path (held_of d path m.rows)) asked
ChangeAsksFor (change.Make at) d m t asked = IsAskedOf at.now (Mkdir at.now) (make_commands t) asked
ChangeAsksFor (change.Put at bytes most) d m t asked =
    IsAskedOf at.now (Put at.now bytes.now most) (λ path. map (bounded most) (put_commands t path bytes.now)) asked
ChangeAsksFor (change.Sync at rows most) d m t asked =
    (wanted : List Shown) → AreRowsOfFolder rows.now wanted
    → IsAskedOf at.now (Mkdir at.now) (λ path. map (bounded most) (sync_commands path (held_of d path m.rows) wanted)) asked

-- those that it is on an image
pub record IsAsked (changing : Changing) (d : Disk) (asked : List Asked) : Type 0 where
  pub mounted : MountedValue
  pub mounts : IsMountOf d mounted
  pub asks : ChangeAsksFor changing d mounted (tree mounts.volume) asked

-- rows of a folder say what some folder has
abbrev pub IsChangeInRange : Changing → Type 0
IsChangeInRange (change.Sync at rows most) = SayFolder rows.now
IsChangeInRange _ = Unit {0}

-- the rows whose contents its commands put: those of the folder, or one of the file
abbrev pub rows_in : Changing → List SyncRow
rows_in (change.Put at bytes most) = record { path = at; bytes = Some bytes } ∷ []
rows_in (change.Sync at rows most) = rows.now
rows_in _ = []

-- the greatest length with which a file that it puts stands in its entry
abbrev pub most_of : Changing → ℕ
most_of (change.Put at bytes most) = most
most_of (change.Sync at rows most) = most
most_of _ = most_held

-- what a plan asks for, with that bound
abbrev pub asked_by : Changing → List Planned → List Asked
asked_by changing plan = map (bounded (most_of changing)) (plan_asked (rows_in changing) plan)

-- why bytes aren't changed so: one of its commands is refused, or what one change is refused for; or no commands follow from them, since
-- they are no image, it doesn't mount, or memory is wanting
abbrev pub RefusesTree : Changing → Option ℕ → ℕ → ℕ → List ℕ → List ℕ → Fault → Type 0
RefusesTree changing keep at size image journal fault =
    ((asked : List Asked) × IsAsked changing (image_of size image) asked × RefusesChange (Together asked keep ∷ []) at size image journal fault)
    ⊎ RefusesChange [] at size image journal fault

-- the commands that a change of a tree is on the present image are one change of the history
abbrev pub ChangesTree : Changing → Option ℕ → History → History → Type 0
ChangesTree changing keep old new = (asked : List Asked) × IsAsked changing old.present asked × TakesAll (Together asked keep ∷ []) old new
