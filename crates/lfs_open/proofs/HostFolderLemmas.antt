-- A host's folder whose rows are packed one after another.
use Rattle.std.proofs.Common.{◌≡◌, ℕ, List, [], ◌∷◌, ◌++◌, map, sym, ap, ◌∙◌}
use Rattle.std.proofs.lemmas.List.{append-nil, append_assoc, map-append}
use Rattle.lfs_extract.specs.declared.folder_row.FolderRow.{FolderRow}
use Rattle.lfs_pack.specs.declared.pack_row.PackRow.{PackRow}
use Rattle.lfs_pack.specs.RowText.{pack_text}
use Rattle.lfs_open.specs.HostFolder.{text_of_folder_row}

module _ (most : ℕ) where
  -- the texts of the rows so far, and of those that are left of a folder
  abbrev pub IsPackedTo : List FolderRow → List FolderRow → List PackRow → Type 0
  IsPackedTo folder left rows = map pack_text rows ++ map (text_of_folder_row most) left ≡ map (text_of_folder_row most) folder

  -- one row more
  pub packed_further : (folder left more : List FolderRow) (f : FolderRow) (rows : List PackRow) (row : PackRow)
      → pack_text row ≡ text_of_folder_row most f → left ≡ f ∷ more → IsPackedTo folder left rows → IsPackedTo folder more (rows ++ row ∷ [])
  packed_further folder left more f rows row same is so_far =
      ap (λ ts. ts ++ map (text_of_folder_row most) more) (map-append pack_text rows (row ∷ []))
      ∙ append_assoc (map pack_text rows) (pack_text row ∷ []) (map (text_of_folder_row most) more)
      ∙ ap (λ t. map pack_text rows ++ t ∷ map (text_of_folder_row most) more) same
      ∙ ap (λ fs. map pack_text rows ++ map (text_of_folder_row most) fs) (sym is)
      ∙ so_far

  -- none is left
  pub all_packed : (folder left : List FolderRow) (rows : List PackRow) → left ≡ [] → IsPackedTo folder left rows
      → map pack_text rows ≡ map (text_of_folder_row most) folder
  all_packed folder left rows none so_far =
      sym (append-nil (map pack_text rows)) ∙ ap (λ fs. map pack_text rows ++ map (text_of_folder_row most) fs) (sym none) ∙ so_far
