-- What a mounted image's outline shows of its tree.
use Rattle.std.proofs.Common.{◌≡◌, Bool, List, [], ◌∷◌, ◌++◌, Option, Some, None, refl, ap, ◌∙◌}
use Rattle.std.specs.Prelude.{if◌then◌else◌, is_some}
use Rattle.std.specs.Option.{option_map}
use Rattle.lfs_block.specs.Disk.{Disk}
use Rattle.lfs_meta.specs.Attribute.{Attributes}
use Rattle.lfs_fs.specs.Entry.{Body, Chain, Directory_at, Entry, Inline}
use Rattle.lfs_fs.specs.Mounted.{IsMountOf, MountedValue}
use Rattle.lfs_fs.specs.Outlined.{outlined_body, outlined_entry}
use Rattle.lfs_fs.specs.Path.{Path}
use Rattle.lfs_fs.specs.Tree.{entry_at, node, node_of, tree}
use Rattle.lfs_fs.specs.Volume.{Volume}
use Rattle.lfs_fs.proofs.OutlinedLemmas.{outlined_at}
use Rattle.lfs_command.specs.Command.{Command, Mkdir}
use Rattle.lfs_command.specs.Verdict.{is_directory}
use Rattle.lfs_sync.specs.Synced.{lacking}

some_kind : (o : Option Entry) → is_some (option_map node (option_map outlined_entry o)) ≡ is_some (option_map node o)
some_kind None = refl
some_kind (Some e) = refl

body_kind : (b : Body) (a : Attributes) → is_directory (Some (node_of (outlined_body b) a)) ≡ is_directory (Some (node_of b a))
body_kind (Inline bytes) a = refl
body_kind (Chain blocks bytes) a = refl
body_kind (Directory_at pair) a = refl

directory_kind : (o : Option Entry) → is_directory (option_map node (option_map outlined_entry o)) ≡ is_directory (option_map node o)
directory_kind None = refl
directory_kind (Some e) = body_kind e.body e.attributes

module _ (d : Disk) (m : MountedValue) (is : IsMountOf d m) where
  outline_at : (p : Path) → entry_at m.outline p ≡ option_map outlined_entry (entry_at is.volume p)
  outline_at p = ap (λ (v : Volume). entry_at v p) is.outline ∙ outlined_at is.volume p

  -- whether something is there, and whether it is a directory
  pub same_some : (p : Path) → is_some (tree m.outline p) ≡ is_some (tree is.volume p)
  same_some p = ap (λ (o : Option Entry). is_some (option_map node o)) (outline_at p) ∙ some_kind (entry_at is.volume p)

  pub same_directory : (p : Path) → is_directory (tree m.outline p) ≡ is_directory (tree is.volume p)
  same_directory p = ap (λ (o : Option Entry). is_directory (option_map node o)) (outline_at p) ∙ directory_kind (entry_at is.volume p)

  -- the same directories lack
  pub same_lacking : (prefix ns : Path) → lacking (tree m.outline) prefix ns ≡ lacking (tree is.volume) prefix ns
  same_lacking prefix [] = refl
  same_lacking prefix (n ∷ []) = refl
  same_lacking prefix (n ∷ k ∷ ns) =
      ap (λ (b : Bool). if b then lacking (tree m.outline) (prefix ++ n ∷ []) (k ∷ ns)
      else Mkdir (prefix ++ n ∷ []) ∷ lacking (tree m.outline) (prefix ++ n ∷ []) (k ∷ ns)) (same_some (prefix ++ n ∷ []))
      ∙ ap (λ (l : List Command). if is_some (tree is.volume (prefix ++ n ∷ [])) then l else Mkdir (prefix ++ n ∷ []) ∷ l)
      (same_lacking (prefix ++ n ∷ []) (k ∷ ns))
