use Rattle.std.proofs.Common.{◌≡◌, ◌++◌, ◌-◌, List, [], drop, take}
use Rattle.lfs_fs.specs.Tree.{tree}
use Rattle.lfs_sync.specs.Planned.{in_texts, plan_asked}
use Rattle.lfs_listing.specs.Below.{names}
use Rattle.lfs_sync.specs.Synced.{lacking}
use Rattle.lfs_sync.specs.declared.sync_row.SyncRow.{SyncRow}
use Rattle.lfs_sync.proofs.making.parents_of.Given as goal

-- those so far, and those behind the prefix that has one name less
abbrev pub invariant-fronts : goal.invariant-fronts
invariant-fronts l =
    (rows : List SyncRow) → plan_asked rows l.plan.items
    ++ in_texts (lacking (tree l.mounted.outline) (take (l.length - 1) (names l.path)) (drop (l.length - 1) (names l.path)))
    ≡ in_texts (lacking (tree l.mounted.outline) [] (names l.path))
