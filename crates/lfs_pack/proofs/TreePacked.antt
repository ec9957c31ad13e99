-- The map of what a mounted image's rows are packed as is its tree.
use Rattle.std.proofs.Common.{◌≡◌, ℕ, Bool, true, false, List, [], ◌∷◌, Option, Some, None, refl, sym, ap, ◌∙◌, inl, inr}
use Rattle.std.specs.Prelude.{if◌then◌else◌}
use Rattle.std.specs.Option.{option_map}
use Rattle.std.specs.List.{Contains}
use Rattle.std.proofs.lemmas.Option.{none-some, same_Some}
use Rattle.lfs_block.specs.Disk.{Disk, IsDisk}
use Rattle.lfs_meta.specs.Attribute.{Attributes}
use Rattle.lfs_fs.specs.Entry.{Body, Inline, Chain, Directory_at, Entry}
use Rattle.lfs_fs.specs.Mounted.{MountedValue, IsMountOf}
use Rattle.lfs_fs.specs.Outlined.{outlined_entry}
use Rattle.lfs_fs.specs.Path.{Path}
use Rattle.lfs_fs.specs.Row.{Row}
use Rattle.lfs_fs.specs.RowShown.{RowsShowTheTree, shown_body, shown_node}
use Rattle.lfs_fs.specs.Tree.{Node, entry_at, node, tree}
use Rattle.lfs_fs.specs.Volume.{Volume}
use Rattle.lfs_fs.proofs.ContainsLemmas.{contains_cases, contains_first, contains_later, contains_none}
use Rattle.lfs_fs.proofs.OutlinedLemmas.{outlined_at}
use Rattle.lfs_command.specs.PathMap.{same_path}
use Rattle.lfs_law.proofs.PathMapLemmas.{same_path_decides}
use Rattle.lfs_pack.specs.Packed.{packed_at, packed_node}
use Rattle.lfs_pack.specs.RepackLaws.{PackedImagesHoldTheTree, RowsPackToTheirTree}
use Rattle.lfs_pack.specs.Repacked.{all_packed, node_bytes, packed_of}

module _ (most : ℕ) where
  -- what an entry shows is what it is packed as
  body_packed : (d : Disk) (b : Body) (a : Attributes) → packed_node (node_bytes (shown_body d b a)) a ≡ shown_body d b a
  body_packed d (Inline bytes) a = refl
  body_packed d (Chain blocks zeros) a = refl
  body_packed d (Directory_at pair) a = refl

  -- ---- what the map has

  -- a row of a path, which shows this
  record IsShownAt (d : Disk) (rows : List Row) (p : Path) (n : Node) : Type 0 where
    row : Row
    there : Contains rows row
    path : row.path ≡ p
    shows : n ≡ shown_node d row.entry

  later_row : (d : Disk) (r : Row) (rows : List Row) (p : Path) (n : Node) → IsShownAt d rows p n → IsShownAt d (r ∷ rows) p n
  later_row d r rows p n h = record { row = h.row; there = contains_later r rows h.row h.there; path = h.path; shows = h.shows }

  shown_by : (d : Disk) (r : Row) (rows : List Row) (p : Path) (n : Node) (b : Bool) → same_path r.path p ≡ b
      → (if b then Some (packed_node (packed_of most d r).bytes r.entry.attributes) else packed_at (all_packed most d rows) p) ≡ Some n
      → (packed_at (all_packed most d rows) p ≡ Some n → IsShownAt d rows p n) → IsShownAt d (r ∷ rows) p n
  shown_by d r rows p n true same is later = record {
    row = r;
    there = contains_first r rows;
    path = (same_path_decides r.path p).0 same;
    shows = sym (same_Some (packed_node (packed_of most d r).bytes r.entry.attributes) n is) ∙ body_packed d r.entry.body r.entry.attributes;
  }
  shown_by d r rows p n false same is later = later_row d r rows p n (later is)

  -- what the map has at a path some row shows
  shown_at : (d : Disk) (rows : List Row) (p : Path) (n : Node) → packed_at (all_packed most d rows) p ≡ Some n → IsShownAt d rows p n
  shown_at d [] p n is = absurd (none-some n is)
  shown_at d (r ∷ rows) p n is =
      shown_by d r rows p n (same_path r.path p) refl is (λ (there : packed_at (all_packed most d rows) p ≡ Some n). shown_at d rows p n there)

  none_by : (d : Disk) (r : Row) (rows : List Row) (p : Path) (b : Bool) → same_path r.path p ≡ b
      → (if b then Some (packed_node (packed_of most d r).bytes r.entry.attributes) else packed_at (all_packed most d rows) p) ≡ None
      → (b ≡ false) × (packed_at (all_packed most d rows) p ≡ None)
  none_by d r rows p true same none = absurd (none-some (packed_node (packed_of most d r).bytes r.entry.attributes) (sym none))
  none_by d r rows p false same none = (refl, none)

  -- where the map has nothing no row is
  no_row : (d : Disk) (rows : List Row) (p : Path) (x : Row) → packed_at (all_packed most d rows) p ≡ None → Contains rows x → x.path ≡ p → ⊥
  no_row d [] p x none there is = contains_none x there
  no_row d (r ∷ rows) p x none there is =
      let here = none_by d r rows p (same_path r.path p) refl none in
      elim (contains_cases r rows x there) [
        | inl same ↦
            let at : same_path r.path p ≡ true = (same_path_decides r.path p).1 (ap (λ (y : Row). y.path) (sym same) ∙ is) in
            absurd (other (same_path r.path p) at here.0)
        | inr later ↦ no_row d rows p x here.1 later is
      ]
    where
      other : (b : Bool) → b ≡ true → b ≡ false → ⊥
      other b is_so is_not = cc

  -- ---- the map of a mount

  -- what is there in a tree is there in the outline
  outlined_there : (v : Volume) (p : Path) (o : Option Entry) (n : Node) → entry_at v p ≡ o → option_map node o ≡ Some n
      → (e : Entry) × (option_map outlined_entry (entry_at v p) ≡ Some e)
  outlined_there v p None n at is = absurd (none-some n is)
  outlined_there v p (Some e) n at is = (outlined_entry e, ap (option_map outlined_entry) at)

  module _ (shows : RowsShowTheTree) (d : Disk) (m : MountedValue) (is : IsMountOf d m) (disk : IsDisk d) (p : Path) where
    at_some : (n : Node) → packed_at (all_packed most d m.rows) p ≡ Some n → packed_at (all_packed most d m.rows) p ≡ tree is.volume p
    at_some n there =
        let s = shown_at d m.rows p n there in
        let shown : tree is.volume s.row.path ≡ Some (shown_node d s.row.entry) = (shows d m is s.row disk s.there).0 in
        there ∙ ap (λ (x : Node). Some x) s.shows ∙ sym shown ∙ ap (tree is.volume) s.path

    at_none : (o : Option Node) → tree is.volume p ≡ o → packed_at (all_packed most d m.rows) p ≡ None
        → packed_at (all_packed most d m.rows) p ≡ tree is.volume p
    at_none None at none = none ∙ sym at
    at_none (Some n) at none =
        let e = outlined_there is.volume p (entry_at is.volume p) n refl at in
        let there : entry_at m.outline p ≡ Some e.0 = ap (λ (v : Volume). entry_at v p) is.outline ∙ outlined_at is.volume p ∙ e.1 in
        absurd (no_row d m.rows p (record { path = p; entry = e.0 }) none (is.rows.complete p e.0 there) refl)

    by_found : (o : Option Node) → packed_at (all_packed most d m.rows) p ≡ o → packed_at (all_packed most d m.rows) p ≡ tree is.volume p
    by_found None none = at_none (tree is.volume p) refl none
    by_found (Some n) there = at_some n there

pub rows_pack_to_their_tree : RowsShowTheTree → RowsPackToTheirTree
rows_pack_to_their_tree shows most d m is p disk = by_found most shows d m is disk p (packed_at (all_packed most d m.rows) p) refl

pub packed_images_hold_the_tree : RowsShowTheTree → PackedImagesHoldTheTree
packed_images_hold_the_tree shows most d m is size count limits bytes packed p disk = packed.at p ∙ rows_pack_to_their_tree shows most d m is p disk
