-- The rows of an image that are held, one after another.
use Rattle.std.proofs.Common.{◌≡◌, List, [], ◌∷◌, ◌++◌, Option, Some, None, ap, sym, subst, ◌∙◌, append_assoc}
use Rattle.std.proofs.lemmas.List.{map-append}
use Rattle.std.proofs.lemmas.List.Elements.{All-push}
use Rattle.lfs_block.specs.Disk.{Disk}
use Rattle.lfs_fs.specs.Listed.{Listed, path_after, row_after, rows_after}
use Rattle.lfs_fs.specs.Path.{Path}
use Rattle.lfs_fs.specs.RowShown.{shown_node}
use Rattle.lfs_command.specs.PathMap.{below}
use Rattle.lfs_listing.specs.Comparing.{AreComplete, IsReadable}
use Rattle.lfs_sync.specs.Shown.{Shown, held_by, held_of}
use Rattle.lfs_listing.specs.Below.{names}
use Rattle.lfs_sync.specs.Sides.{CanBeRead, HoldsMore, held_all, held_shown}
use Rattle.lfs_sync.specs.declared.held_row.HeldRow.{HeldRow}

-- the row at hand, which is of this path then
module _ (at q now : Path) (left later : List Listed) (x : Listed) (held : List HeldRow) (first : left ≡ x ∷ later)
    (path : now ≡ path_after q x.depth x.entry.name) where
  -- it is held
  shown_more : (d : Disk) (all : List Shown) (h : HeldRow) → h.row ≡ x → below at now ≡ Some (names h.path.items)
      → held_all d held ++ held_of d at (rows_after q left) ≡ all → held_all d (held ++ h ∷ []) ++ held_of d at (rows_after now later) ≡ all
  shown_more d all h same inside way =
      let rest : List Shown = held_of d at (rows_after now later) in
      ap (λ (l : List Shown). l ++ rest) (map-append (held_shown d) held (h ∷ []))
      ∙ append_assoc (held_all d held) (held_shown d h ∷ []) rest
      ∙ ap (λ (y : Listed). held_all d held ++ record { path = names h.path.items; node = shown_node d y.entry } ∷ rest) same
      ∙ ap (λ (o : Option Path). held_all d held ++ held_by d (row_after q x) o rest) (sym inside)
      ∙ ap (λ (p : Path). held_all d held ++ held_by d (row_after q x) (below at p) (held_of d at (rows_after p later))) path
      ∙ ap (λ (l : List Listed). held_all d held ++ held_of d at (rows_after q l)) (sym first)
      ∙ way

  -- or it is elsewhere
  shown_less : (d : Disk) (all : List Shown) → below at now ≡ None
      → held_all d held ++ held_of d at (rows_after q left) ≡ all → held_all d held ++ held_of d at (rows_after now later) ≡ all
  shown_less d all outside way =
      ap (λ (o : Option Path). held_all d held ++ held_by d (row_after q x) o (held_of d at (rows_after now later)))
      (sym outside)
      ∙ ap (λ (p : Path). held_all d held ++ held_by d (row_after q x) (below at p) (held_of d at (rows_after p later))) path
      ∙ ap (λ (l : List Listed). held_all d held ++ held_of d at (rows_after q l)) (sym first)
      ∙ way

  complete_less : (d : Disk) → AreComplete d (rows_after q left) → IsReadable d x.entry.body × AreComplete d (rows_after now later)
  complete_less d complete =
      let here = subst (λ (l : List Listed). AreComplete d (rows_after q l)) first complete in
      (here.0, subst (λ (p : Path). AreComplete d (rows_after p later)) (sym path) here.1)

  complete_more : (d : Disk) (h : HeldRow) → h.row ≡ x → CanBeRead d held → AreComplete d (rows_after q left)
      → CanBeRead d (held ++ h ∷ []) × AreComplete d (rows_after now later)
  complete_more d h same can complete =
      let here = complete_less d complete in (
        All-push (λ (y : HeldRow). IsReadable d y.row.entry.body) held h can
            (subst (λ (y : Listed). IsReadable d y.entry.body) (sym same) here.0),
        here.1,
      )

  -- whichever it is
  pub shown_now : (d : Disk) (all : List Shown) (new : List HeldRow) (o : Option Path) → below at now ≡ o → HoldsMore o x held new
      → held_all d held ++ held_of d at (rows_after q left) ≡ all → held_all d new ++ held_of d at (rows_after now later) ≡ all
  shown_now d all new None outside same way =
      ap (λ (l : List HeldRow). held_all d l ++ held_of d at (rows_after now later)) same ∙ shown_less d all outside way
  shown_now d all new (Some rest) inside (h, path_is, row_is, more) way =
      ap (λ (l : List HeldRow). held_all d l ++ held_of d at (rows_after now later)) more
      ∙ shown_more d all h row_is (inside ∙ ap (λ (p : Path). Some p) (sym path_is)) way

  pub complete_now : (d : Disk) (new : List HeldRow) (o : Option Path) → HoldsMore o x held new
      → CanBeRead d held × AreComplete d (rows_after q left) → CanBeRead d new × AreComplete d (rows_after now later)
  complete_now d new None same (can, complete) = (subst (CanBeRead d) (sym same) can, (complete_less d complete).1)
  complete_now d new (Some rest) (h, path_is, row_is, more) (can, complete) =
      subst (λ (l : List HeldRow). CanBeRead d l × AreComplete d (rows_after now later)) (sym more) (complete_more d h row_is can complete)
