-- A row is made, and then its attributes are set.
use Rattle.std.proofs.Common.{ℕ, List, Option, refl, subst, inl, inr, map}
use Rattle.lfs_fs.specs.Path.{Path, IsPathText, TextsSpellOnePath}
use Rattle.lfs_command.specs.declared.refusal.Refusal.{Refusal}
use Rattle.lfs_pack.specs.declared.new_image.NewImage.{NewImage}
use Rattle.lfs_pack.specs.declared.pack_row.PackRow.{PackRow}
use Rattle.lfs_pack.specs.Packed.{IsRowOf, Packed, attribute_of, making, row_bytes, row_commands, setting}
use Rattle.lfs_pack.specs.RowsCarried.{AddsRow, Places, RefusesAdding, RefusesAll, RefusesPlace, SetsAll}
use Rattle.lfs_pack.specs.Stopped.{AreStopped}
use Rattle.lfs_pack.proofs.LedOn.{led_on, stopped_first, stopped_then}
use Rattle.lfs_pack.proofs.RowsSpelled.{same_row}

module _ (row : PackRow) where
  -- what the row says, at this path
  row_at : Path → Packed
  row_at p = record { path = p; bytes = row_bytes row; most = row.most; attributes = map attribute_of row.attributes.now }

  is_row_at : (p : Path) → IsPathText row.path.now p → IsRowOf row (row_at p)
  unfolding row_at
  is_row_at p spelled = record { path = spelled; bytes = refl; most = refl; attributes = refl }

  pub adds_row : (t a u : NewImage) → Places row.path.now (row_bytes row) row.most t a
      → SetsAll row.path.now (map attribute_of row.attributes.now) a u → AddsRow row t u
  unfolding row_at
  adds_row t a u places sets v at =
      let one = places v at in
      let two = sets one.0 one.2 one.1 one.4 in (
        row_at one.0,
        is_row_at one.0 one.1,
        two.0,
        led_on (making one.0 (row_bytes row) row.most) (setting one.0 (map attribute_of row.attributes.now)) v one.2 two.0 one.3 two.1,
        two.2,
      )

  pub row_not_placed : (t : NewImage) (r : Refusal) → RefusesPlace row.path.now (row_bytes row) row.most t r → RefusesAdding row t r
  row_not_placed t r (inl memory) = inl memory
  row_not_placed t r (inr refuses) = inr (λ v p at is.
      stopped_first (making p.path p.bytes p.most) (setting p.path p.attributes) v r
      (subst (λ (b : Option (List ℕ)). AreStopped (making p.path b p.most) v r) is.bytes
      (subst (λ (n : ℕ). AreStopped (making p.path (row_bytes row) n) v r) is.most (refuses v p.path at is.path))))

  pub row_not_set : TextsSpellOnePath → (t a : NewImage) (r : Refusal) → Places row.path.now (row_bytes row) row.most t a
      → RefusesAll row.path.now (map attribute_of row.attributes.now) a r → RefusesAdding row t r
  unfolding row_at
  row_not_set texts t a r places (inl memory) = inl memory
  row_not_set texts t a r places (inr refuses) = inr (λ v p at is.
      let one = places v at in
      subst (λ (x : Packed). AreStopped (row_commands x) v r) (same_row texts row (row_at one.0) p (is_row_at one.0 one.1) is)
      (stopped_then (making one.0 (row_bytes row) row.most) (setting one.0 (map attribute_of row.attributes.now)) v one.2 r one.3
      (refuses one.0 one.2 one.1 one.4)))
