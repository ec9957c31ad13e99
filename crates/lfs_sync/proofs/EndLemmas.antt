-- Plans as they are answered.
use Rattle.std.proofs.Common.{◌≡◌, ◌≢◌, ◌==◌, ℕ, Bool, true, false, List, [], ◌∷◌, ◌++◌, Bor, Option, Some, map, refl, ap, sym, subst, ◌∙◌}
use Rattle.std.proofs.Common.{append_assoc, inl, length, arith}
use Rattle.std.specs.Global.{Vec}
use Rattle.std.specs.Prelude.{MatchOption, if◌then◌else◌, reverse}
use Rattle.std.specs.List.{filter}
use Rattle.std.specs.Option.{unwrap_or}
use Rattle.std.proofs.lemmas.List.{map-append}
use Rattle.lfs_block.specs.Disk.{Disk}
use Rattle.lfs_meta.specs.Name.{Name}
use Rattle.lfs_fs.specs.Limits.{most_held}
use Rattle.lfs_fs.specs.Mounted.{IsMountOf, MountedValue}
use Rattle.lfs_fs.specs.Path.{IsNoPath, IsPathText, Path, path_text}
use Rattle.lfs_fs.specs.Tree.{tree}
use Rattle.lfs_command.specs.Command.{Asked, Command, Mkdir, Put, on_paths}
use Rattle.lfs_command.specs.Verdict.{is_directory}
use Rattle.lfs_sync.specs.Merging.{IsMerged}
use Rattle.lfs_sync.specs.Planned.{IsPlanOf, in_texts, plan_asked, planned_asked}
use Rattle.lfs_sync.specs.Shown.{Shown}
use Rattle.lfs_listing.specs.Below.{names}
use Rattle.lfs_sync.specs.SyncRows.{bytes_at}
use Rattle.lfs_sync.specs.Synced.{goes, is_new_directory, is_new_file, lacking, made, make_commands, put_commands, removals}
use Rattle.lfs_sync.specs.Synced.{remove_commands, sync_commands}
use Rattle.lfs_sync.specs.declared.merging.Merging.{Merging}
use Rattle.lfs_sync.specs.declared.planned.Planned.{Planned}
use Rattle.lfs_sync.specs.declared.planned.PlannedKind.TheVariants as kind
use Rattle.lfs_sync.specs.declared.sync_row.SyncRow.{SyncRow}
use Rattle.lfs_sync.proofs.KindLemmas.{same_directory, same_lacking}
use Rattle.lfs_sync.proofs.RemovalLemmas.{turned}

-- the names that a text has
pub spelled_is : (text : List ℕ) (o : Option (Vec (Bor Name))) (ns : Vec (Bor Name)) → o ≡ Some ns
    → MatchOption o (IsNoPath text) (λ (v : Vec (Bor Name)). IsPathText text (names v.items)) → IsPathText text (names ns.items)
spelled_is text o ns is spelled =
    subst (λ (p : Option (Vec (Bor Name))). MatchOption p (IsNoPath text) (λ (v : Vec (Bor Name)). IsPathText text (names v.items))) is spelled

texts_end : (commands : List Command) (c : Command) → in_texts (commands ++ c ∷ []) ≡ in_texts commands ++ on_paths path_text c ∷ []
texts_end commands c = map-append (on_paths path_text) commands (c ∷ [])

-- ---- directories with their parents

module _ (d : Disk) (m : MountedValue) (is : IsMountOf d m) (rows : List SyncRow) (text : List ℕ) (p : Path) (spelled : IsPathText text p) where
  pub make_none : is_directory (tree m.outline p) ≡ true → IsPlanOf text kind.Directory (make_commands (tree is.volume)) rows []
  make_none there =
      inl (
        p,
        spelled,
        ap (λ (b : Bool). in_texts (if b then [] else lacking (tree is.volume) [] p ++ Mkdir p ∷ []))
            (sym (sym (same_directory d m is p) ∙ there)),
      )

  pub make_some : is_directory (tree m.outline p) ≡ false → (asked : List Asked)
      → asked ≡ in_texts (lacking (tree m.outline) [] p) ++ Mkdir (path_text p) ∷ []
      → IsPlanOf text kind.Directory (make_commands (tree is.volume)) rows asked
  make_some none asked planned =
      inl (
        p,
        spelled,
        planned
            ∙ ap (λ (l : List Command). in_texts l ++ Mkdir (path_text p) ∷ []) (same_lacking d m is [] p)
            ∙ sym (texts_end (lacking (tree is.volume) [] p) (Mkdir p))
            ∙ ap (λ (b : Bool). in_texts (if b then [] else lacking (tree is.volume) [] p ++ Mkdir p ∷ []))
            (sym (sym (same_directory d m is p) ∙ none)),
      )

  pub put_some : (asked : List Asked)
      → asked ≡ in_texts (lacking (tree m.outline) [] p) ++ Put (path_text p) (unwrap_or (bytes_at rows 0) []) most_held ∷ []
      → IsPlanOf text (kind.File 0) (λ (path : Path). put_commands (tree is.volume) path (unwrap_or (bytes_at rows 0) [])) rows asked
  put_some asked planned =
      inl (
        p,
        spelled,
        planned
            ∙ ap (λ (l : List Command). in_texts l ++ Put (path_text p) (unwrap_or (bytes_at rows 0) []) most_held ∷ []) (same_lacking d m is [] p)
            ∙ sym (texts_end (lacking (tree is.volume) [] p) (Put p (unwrap_or (bytes_at rows 0) []) most_held)),
      )

-- ---- removals

remove_is : (p : Path) (held : List Shown) → p ≢ [] → held ≢ [] → remove_commands p held ≡ removals p held []
remove_is [] held some' more = absurd (some' refl)
remove_is (n ∷ p) [] some' more = absurd (more refl)
remove_is (n ∷ p) (r ∷ rs) some' more = refl

pub remove_all : (text : List ℕ) (p : Path) (rows : List SyncRow) (held : Path → List Shown) (left : List Shown) (asked : List Asked)
    → IsPathText text p → p ≢ [] → left ≡ held p → left ≢ [] → asked ≡ in_texts (removals p left [])
    → IsPlanOf text kind.Removal (λ (path : Path). remove_commands path (held path)) rows asked
remove_all text p rows held left asked spelled some' are more planned =
    inl (p, spelled, planned ∙ ap in_texts (sym (remove_is p left some' more)) ∙ ap (λ (l : List Shown). in_texts (remove_commands p l)) are)

-- ---- what becomes a folder

pub sync_joined : (at : Path) (rows : List SyncRow) (m : Merging) (held wanted : List Shown) (plan : List Planned) → IsMerged at rows m held wanted
    → plan ≡ reverse m.removed.items ++ m.directories.items ++ m.files.items → plan_asked rows plan ≡ in_texts (sync_commands at held wanted)
sync_joined at rows m held wanted plan merged is =
    let gone : List Command = removals at held wanted in
    let dirs : List Command = made (is_new_directory held) at wanted in
    let files : List Command = made (is_new_file held) at wanted in
    ap (plan_asked rows) is
    ∙ map-append (planned_asked rows) (reverse m.removed.items ++ m.directories.items) m.files.items
    ∙ ap (λ (l : List Asked). l ++ plan_asked rows m.files.items)
    (map-append (planned_asked rows) (reverse m.removed.items) m.directories.items)
    ∙ ap (λ (l : List Asked). (l ++ plan_asked rows m.directories.items) ++ plan_asked rows m.files.items)
    (turned rows m.removed.items (reverse m.removed.items) at (filter (goes wanted) held) refl merged.removed)
    ∙ ap (λ (l : List Asked). (in_texts gone ++ l) ++ plan_asked rows m.files.items) merged.directories
    ∙ ap (λ (l : List Asked). (in_texts gone ++ in_texts dirs) ++ l) merged.files
    ∙ append_assoc (in_texts gone) (in_texts dirs) (in_texts files)
    ∙ ap (λ (l : List Asked). in_texts gone ++ l) (sym (map-append (on_paths path_text) dirs files))
    ∙ sym (map-append (on_paths path_text) gone (dirs ++ files))

pub sync_all : (text : List ℕ) (p : Path) (rows : List SyncRow) (shown : Path → List Shown) (held left wanted : List Shown)
    (plan : List Planned) → IsPathText text p → held ≡ shown p → left ≡ wanted → plan_asked rows plan ≡ in_texts (sync_commands p held left)
    → IsPlanOf text kind.Directory (λ (path : Path). sync_commands path (shown path) wanted) rows (plan_asked rows plan)
sync_all text p rows shown held left wanted plan spelled are same planned =
    inl (
      p,
      spelled,
      planned
          ∙ ap (λ (l : List Shown). in_texts (sync_commands p l left)) are ∙ ap (λ (l : List Shown). in_texts (sync_commands p (shown p) l)) same,
    )

-- what isn't empty
pub some_mapped : {X Y : Type 0} (f : X → Y) (xs : List X) (n : ℕ) → n ≡ length xs → false ≡ (n == 0) → map f xs ≢ []
some_mapped f [] n long some' none = let zero_is : n ≡ 0 = long in absurd (cc (ap (λ (k : ℕ). k == 0) zero_is, some'))
some_mapped f (x ∷ xs) n long some' none = let some_length : length (map f (x ∷ xs)) ≡ 0 = ap length none in absurd (omega arith)
