-- Commands that are planned one after another.
use Rattle.std.proofs.Common.{sym, ℕ, ◌+◌, ◌<◌, ◌∷◌, get_or, length, map, take, ◌≡◌, Bool, not, List, [], ◌++◌, ap, ◌∙◌, append-nil}
use Rattle.std.specs.Prelude.{◌&&◌}
use Rattle.std.proofs.lemmas.List.{map-append, take_more}
use Rattle.lfs_block.specs.Disk.{Disk}
use Rattle.lfs_fs.specs.Path.{Path, path_text}
use Rattle.lfs_command.specs.Command.{Asked, Command, Rm, on_paths}
use Rattle.lfs_sync.specs.Merging.{PlansBehind, PlansBoth, PlansHeld, PlansWanted, if_so}
use Rattle.lfs_sync.specs.Planned.{in_texts, plan_asked}
use Rattle.lfs_sync.specs.Shown.{Shown}
use Rattle.lfs_listing.specs.Below.{names}
use Rattle.lfs_sync.specs.Sides.{held_all, held_shown}
use Rattle.lfs_sync.specs.Synced.{is_dir, making_row, removing, same_held, same_kind}
use Rattle.lfs_sync.specs.declared.held_row.HeldRow.{HeldRow}
use Rattle.lfs_sync.specs.declared.merging.Merging.{Merging}
use Rattle.lfs_sync.specs.declared.planned.Planned.{Planned}
use Rattle.lfs_sync.specs.declared.sync_row.SyncRow.{SyncRow}

-- no command more
none_then : (rows : List SyncRow) (old mid new : List Planned) (commands : List Command) → PlansBehind rows old mid [] → PlansBehind rows mid new commands
    → PlansBehind rows old new commands
none_then rows old mid new commands first second =
    second ∙ ap (λ (l : List Asked). l ++ in_texts commands) (first ∙ append-nil (plan_asked rows old))

then_none : (rows : List SyncRow) (old mid new : List Planned) (commands : List Command) → PlansBehind rows old mid commands → PlansBehind rows mid new []
    → PlansBehind rows old new commands
then_none rows old mid new commands first second = second ∙ append-nil (plan_asked rows mid) ∙ first

-- a removal and a making_row are a change
pub change_planned : (at : Path) (rows : List SyncRow) (old mid new : Merging) (r other : Shown) (stays is_there : Bool)
    → PlansHeld at rows old mid r (not stays) → PlansWanted at rows mid new other (not is_there) → stays ≡ same_kind other.node r.node
    → is_there ≡ same_held r.node other.node → PlansBoth at rows old new r other
change_planned at rows old mid new r other stays is_there first second stays_is there_is = record {
  removed = then_none rows old.removed.items mid.removed.items new.removed.items (if_so (not (same_kind other.node r.node)) (removing at r))
      (first.removed ∙ ap (λ (b : Bool). plan_asked rows old.removed.items ++ in_texts (if_so (not b) (removing at r))) stays_is) second.removed;
  directories = none_then rows old.directories.items mid.directories.items new.directories.items
      (if_so (is_dir other && not (same_held r.node other.node)) (making_row at other)) first.directories
      (second.directories ∙ ap (λ (b : Bool). plan_asked rows mid.directories.items ++ in_texts (if_so (is_dir other && not b) (making_row at other))) there_is);
  files = none_then rows old.files.items mid.files.items new.files.items
      (if_so (not (is_dir other) && not (same_held r.node other.node)) (making_row at other)) first.files
      (second.files ∙ ap (λ (b : Bool). plan_asked rows mid.files.items ++ in_texts (if_so (not (is_dir other) && not b) (making_row at other))) there_is);
}

-- ---- lists that grow

-- one more, of a map of as many
pub one_more : {X Y Z : Type 0} (f : X → Z) (all : List Y → List Z) (xs new : List X) (ys : List Y) (i : ℕ) (x : X) (y : Y)
    → new ≡ xs ++ x ∷ [] → i < length ys → y ≡ get_or ys i y → ((l : List Y) → all (l ++ y ∷ []) ≡ all l ++ f x ∷ [])
    → map f xs ≡ all (take i ys) → map f new ≡ all (take (i + 1) ys)
one_more f all xs new ys i x y is within here more so_far =
    ap (map f) is ∙ map-append f xs (x ∷ []) ∙ ap (λ l. l ++ f x ∷ []) so_far
    ∙ sym (more (take i ys))
    ∙ ap all (ap (λ z. take i ys ++ z ∷ []) here ∙ sym (take_more ys i y within))

-- the rows of an image that are removed
pub removed_more : (d : Disk) (at : Path) (h : HeldRow) (l : List HeldRow)
    → in_texts (map (removing at) (held_all d (l ++ h ∷ []))) ≡ in_texts (map (removing at) (held_all d l)) ++ Rm (path_text (at ++ names h.path.items)) ∷ []
removed_more d at h l =
    ap (λ (rs : List Shown). in_texts (map (removing at) rs)) (map-append (held_shown d) l (h ∷ []))
    ∙ ap in_texts (map-append (removing at) (held_all d l) (held_shown d h ∷ []))
    ∙ map-append (on_paths path_text) (map (removing at) (held_all d l)) (removing at (held_shown d h) ∷ [])
