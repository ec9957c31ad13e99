-- Removals that are planned of all rows.
use Rattle.std.proofs.Common.{◌≡◌, List, [], ◌∷◌, ◌++◌, map, refl, ap, sym, ◌∙◌}
use Rattle.std.specs.Prelude.{reverse}
use Rattle.std.proofs.lemmas.List.{map-append, reverse-append}
use Rattle.lfs_fs.specs.Path.{Path, path_text}
use Rattle.lfs_command.specs.Command.{on_paths}
use Rattle.lfs_sync.specs.Planned.{in_texts, plan_asked, planned_asked}
use Rattle.lfs_sync.specs.Shown.{Shown}
use Rattle.lfs_sync.specs.Synced.{removals, removing}
use Rattle.lfs_sync.specs.declared.planned.Planned.{Planned}
use Rattle.lfs_sync.specs.declared.sync_row.SyncRow.{SyncRow}
use Rattle.lfs_sync.proofs.RemovedLemmas.{all_go}

-- a map of a list that is turned round
pub map_reverse : {X Y : Type 0} (f : X → Y) (xs : List X) → map f (reverse xs) ≡ reverse (map f xs)
map_reverse f [] = refl
map_reverse f (x ∷ xs) =
    ap (map f) (reverse-append (x ∷ []) xs)
    ∙ map-append f (reverse xs) (x ∷ [])
    ∙ ap (λ l. l ++ f x ∷ []) (map_reverse f xs)
    ∙ sym (reverse-append (f x ∷ []) (map f xs))

-- a list of planned commands turned round
pub turned : (rows : List SyncRow) (plan turned : List Planned) (at : Path) (rs : List Shown) → turned ≡ reverse plan
    → plan_asked rows plan ≡ in_texts (map (removing at) rs) → plan_asked rows turned ≡ in_texts (map (removing at) (reverse rs))
turned rows plan after at rs is planned =
    ap (plan_asked rows) is ∙ map_reverse (planned_asked rows) plan ∙ ap reverse planned
    ∙ sym (map_reverse (on_paths path_text) (map (removing at) rs))
    ∙ ap in_texts (sym (map_reverse (removing at) rs))

pub all_removed : (rows : List SyncRow) (plan after : List Planned) (at : Path) (rs : List Shown) → after ≡ reverse plan
    → plan_asked rows plan ≡ in_texts (map (removing at) rs) → plan_asked rows after ≡ in_texts (removals at rs [])
all_removed rows plan after at rs is planned =
    turned rows plan after at rs is planned ∙ ap (λ (l : List Shown). in_texts (map (removing at) (reverse l))) (sym (all_go rs))
