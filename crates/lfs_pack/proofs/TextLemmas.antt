-- Rows that have the texts of what is packed are rows of it.
use Rattle.std.proofs.Common.{◌≡◌, ◌∙◌, ℕ, List, [], ◌∷◌, ◌++◌, map, length, drop, get_or, sym, ap, subst, arith, Result, Ok, Err, IfOk}
use Rattle.std.proofs.lemmas.List.{append-nil, append_assoc, map-append}
use Rattle.std.specs.Prelude.{All}
use Rattle.std.specs.List.{AllZip}
use Rattle.std.proofs.lemmas.List.Elements.{All-head, All-tail}
use Rattle.std.proofs.lemmas.Simd.{map-map}
use Rattle.std.specs.Global.{Vec}
use Rattle.std.specs.declared.alloc.AllocError.{AllocError}
use Rattle.lfs_block.specs.Disk.{Disk}
use Rattle.lfs_fs.specs.Limits.{most_held}
use Rattle.lfs_fs.specs.Mounted.{MountedValue}
use Rattle.lfs_fs.specs.Row.{Row}
use Rattle.lfs_meta.specs.Name.{IsName}
use Rattle.lfs_pack.specs.declared.pack_row.PackRow.{PackRow}
use Rattle.lfs_pack.specs.Packed.{ArePackable, IsRowOf, Packed}
use Rattle.lfs_pack.specs.RepackLaws.{RowsAreOfTheirTexts}
use Rattle.lfs_pack.specs.Copies.{AreCopies}
use Rattle.lfs_pack.specs.Repacked as pack
use Rattle.lfs_pack.specs.Repacked.{packed_of}
use Rattle.lfs_pack.specs.RowText.{RowText, pack_text, packed_text, shown_text, source_text}
use Rattle.lfs_pack.specs.declared.source_row.SourceRow.{SourceRow}

row_of : (row : PackRow) (r : Packed) → pack_text row ≡ packed_text r → All IsName r.path → IsRowOf row r
row_of row r same names = record {
  path = (names, ap (λ (t : RowText). t.text) same);
  bytes = ap (λ (t : RowText). t.bytes) same;
  most = ap (λ (t : RowText). t.most) same;
  attributes = ap (λ (t : RowText). t.attributes) same;
}

head_same : (t u : RowText) (ts us : List RowText) → t ∷ ts ≡ u ∷ us → t ≡ u
head_same t u ts us same = ap (λ (xs : List RowText). get_or xs 0 t) same

rows_of : (rows : List PackRow) (packed : List Packed) → map pack_text rows ≡ map packed_text packed → All (λ (r : Packed). All IsName r.path) packed
    → AllZip IsRowOf rows packed
rows_of [] [] same names = tt
rows_of [] (r ∷ packed) same names = absurd (omega (arith, ap length same))
rows_of (row ∷ rows) [] same names = absurd (omega (arith, ap length same))
rows_of (row ∷ rows) (r ∷ packed) same names = (
  row_of row r (head_same (pack_text row) (packed_text r) (map pack_text rows) (map packed_text packed) same)
      (All-head (λ (x : Packed). All IsName x.path) r packed names),
  rows_of rows packed (ap (drop 1) same) (All-tail (λ (x : Packed). All IsName x.path) r packed names),
)

pub rows_are_of_their_texts : RowsAreOfTheirTexts
rows_are_of_their_texts rows packed same packable =
    record { each = rows_of rows packed same packable.names; packable = packable }

module _ (most : ℕ) where
  -- ---- rows that are packed one after another

  -- the texts of the rows so far, and of those that are left
  abbrev pub ArePackedTo : List SourceRow → List SourceRow → List PackRow → Type 0
  ArePackedTo copied left rows = map pack_text rows ++ map (source_text most) left ≡ map (source_text most) copied

  -- one row more
  pub packed_further : (copied left more : List SourceRow) (s : SourceRow) (rows : List PackRow) (row : PackRow)
      → pack_text row ≡ source_text most s → left ≡ s ∷ more → ArePackedTo copied left rows → ArePackedTo copied more (rows ++ row ∷ [])
  packed_further copied left more s rows row same is so_far =
      ap (λ ts. ts ++ map (source_text most) more) (map-append pack_text rows (row ∷ []))
      ∙ append_assoc (map pack_text rows) (pack_text row ∷ []) (map (source_text most) more)
      ∙ ap (λ t. map pack_text rows ++ t ∷ map (source_text most) more) same
      ∙ ap (λ fs. map pack_text rows ++ map (source_text most) fs) (sym is)
      ∙ so_far

  -- none is left
  pub all_packed : (copied left : List SourceRow) (rows : List PackRow) → left ≡ [] → ArePackedTo copied left rows
      → map pack_text rows ≡ map (source_text most) copied
  all_packed copied left rows none so_far =
      let all : ArePackedTo copied [] rows = subst (λ (l : List SourceRow). ArePackedTo copied l rows) none so_far in
      sym (append-nil (map pack_text rows)) ∙ all

-- ---- copies

-- the same text with another bound
with_bound : ℕ → RowText → RowText
with_bound most t = record { text = t.text; bytes = t.bytes; most = most; attributes = t.attributes }

-- what was copied with one bound is what was copied with another one
bounded_texts : (most : ℕ) (d : Disk) (copied : List SourceRow) (listed : List Row)
    → map (source_text most_held) copied ≡ map (shown_text most_held d) listed → map (source_text most) copied ≡ map (shown_text most d) listed
unfolding with_bound
bounded_texts most d copied listed texts =
    sym (map-map (with_bound most) (source_text most_held) copied) ∙ ap (map (with_bound most)) texts
    ∙ map-map (with_bound most) (shown_text most_held d) listed

-- rows that have the texts of copies are rows of what was copied
pub are_copies : RowsAreOfTheirTexts → (d : Disk) (m : MountedValue) → ((most : ℕ) → ArePackable (pack.all_packed most d m.rows)) → (listed : List Row)
    → listed ≡ m.rows → (r : Result (Vec SourceRow) AllocError)
    → IfOk r (λ copied. map (source_text most_held) copied.items ≡ map (shown_text most_held d) listed) → IfOk r (λ copied. AreCopies d m.rows copied.items)
are_copies law d m packable listed same (Ok copied) texts =
    λ most packed is. law packed (pack.all_packed most d m.rows)
    (is ∙ bounded_texts most d copied.items listed texts ∙ ap (map (shown_text most d)) same ∙ sym (map-map packed_text (packed_of most d) m.rows))
    (packable most)
are_copies law d m packable listed same (Err error) texts = tt
