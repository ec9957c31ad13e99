-- The code's rows determine what is packed.
use Rattle.std.proofs.Common.{◌≡◌, ℕ, List, [], ◌∷◌, Option, refl, ap, sym, ◌∙◌}
use Rattle.std.specs.List.{AllZip}
use Rattle.lfs_meta.specs.Attribute.{Attributes}
use Rattle.lfs_fs.specs.Path.{Path, TextsSpellOnePath}
use Rattle.lfs_pack.specs.declared.pack_row.PackRow.{PackRow}
use Rattle.lfs_pack.specs.Packed.{IsRowOf, Packed}

pub packed_of : Path → Option (List ℕ) → ℕ → Attributes → Packed
packed_of path bytes most attributes = record { path = path; bytes = bytes; most = most; attributes = attributes }

pub same_row : TextsSpellOnePath → (row : PackRow) (r s : Packed) → IsRowOf row r → IsRowOf row s → r ≡ s
unfolding packed_of
same_row texts row r s one other =
    ap (λ (p : Path). packed_of p r.bytes r.most r.attributes) (texts row.path.now r.path s.path one.path other.path)
    ∙ ap (λ (b : Option (List ℕ)). packed_of s.path b r.most r.attributes) (sym one.bytes ∙ other.bytes)
    ∙ ap (λ (n : ℕ). packed_of s.path s.bytes n r.attributes) (sym one.most ∙ other.most)
    ∙ ap (packed_of s.path s.bytes s.most) (sym one.attributes ∙ other.attributes)

pub same_rows : TextsSpellOnePath → (rows : List PackRow) (ps qs : List Packed) → AllZip IsRowOf rows ps → AllZip IsRowOf rows qs → ps ≡ qs
same_rows texts [] [] [] one other = refl
same_rows texts [] [] (q ∷ qs) one other = absurd other
same_rows texts [] (p ∷ ps) qs one other = absurd one
same_rows texts (row ∷ rows) [] qs one other = absurd one
same_rows texts (row ∷ rows) (p ∷ ps) [] one other = absurd other
same_rows texts (row ∷ rows) (p ∷ ps) (q ∷ qs) (one, each) (other, others) =
    ap (λ (x : Packed). x ∷ ps) (same_row texts row p q one other) ∙ ap (λ (l : List Packed). q ∷ l) (same_rows texts rows ps qs each others)
