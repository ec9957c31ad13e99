-- Commands that are planned, as the code has them (own).
use Rattle.std.specs.Prelude.{◌≡◌, ◌⊎◌, ℕ, List, [], ◌∷◌, map}
use Rattle.std.specs.Option.{unwrap_or}
use Rattle.lfs_fs.specs.Limits.{most_held}
use Rattle.lfs_fs.specs.Path.{Path, IsNoPath, IsPathText, path_text}
use Rattle.lfs_command.specs.Command.{Asked, Command, Mkdir, Put, Rm, on_paths}
use Rattle.lfs_sync.specs.SyncRows.{bytes_at}
use Rattle.lfs_sync.specs.declared.planned.Planned.{Planned}
use Rattle.lfs_sync.specs.declared.planned.PlannedKind.{PlannedKind}
use Rattle.lfs_sync.specs.declared.planned.PlannedKind.TheVariants as kind
use Rattle.lfs_sync.specs.declared.sync_row.SyncRow.{SyncRow}

-- what is asked for at a path: of the row at a place its contents are put, of none nothing
abbrev pub kind_asked : List SyncRow → List ℕ → PlannedKind → Asked
kind_asked rows text kind.Removal = Rm text
kind_asked rows text kind.Directory = Mkdir text
kind_asked rows text (kind.File place) = Put text (unwrap_or (bytes_at rows place) []) most_held

-- the command that is asked for, over the rows
abbrev pub planned_asked : List SyncRow → Planned → Asked
planned_asked rows planned = kind_asked rows planned.text.items planned.kind

-- and all of them
abbrev pub plan_asked : List SyncRow → List Planned → List Asked
plan_asked rows plan = map (planned_asked rows) plan

-- commands over the texts of their paths
abbrev pub in_texts : List Command → List Asked
in_texts commands = map (on_paths path_text) commands

-- The text spells a path, and the commands are those of it. Or it spells none, and the one command is on it, and refused for that.
abbrev pub IsPlanOf : List ℕ → PlannedKind → (Path → List Command) → List SyncRow → List Asked → Type 0
IsPlanOf text kind commands rows asked =
    ((path : Path) × IsPathText text path × (asked ≡ in_texts (commands path)))
    ⊎ (IsNoPath text × (asked ≡ kind_asked rows text kind ∷ []))
