-- The rows of a folder, with the names of their paths.
use Rattle.std.proofs.Common.{◌≡◌, ℕ, zero, suc, ◌+◌, ◌<◌, ◌≤◌, List, [], ◌∷◌, ◌++◌, Option, None, length, take, get_or, refl, ap, sym, ◌∙◌}
use Rattle.std.proofs.Common.{arith}
use Rattle.std.specs.List.{AllZip}
use Rattle.std.specs.Option.{option_and_then}
use Rattle.std.proofs.lemmas.List.{map-append, take_all, take_more}
use Rattle.std.proofs.lemmas.Option.{slice_get-get_or}
use Rattle.lfs_fs.specs.Path.{IsPathText, Path, TextsSpellOnePath}
use Rattle.lfs_fs.specs.Tree.{Node}
use Rattle.lfs_sync.specs.Shown.{Shown, wanted_node}
use Rattle.lfs_listing.specs.Below.{names}
use Rattle.lfs_sync.specs.Sides.{wanted_all, wanted_shown}
use Rattle.lfs_sync.specs.SyncRows.{IsFolderRow, AreRowsOfFolder, SayFolder, bytes_at, folder_row_bytes}
use Rattle.lfs_sync.specs.declared.sync_row.SyncRow.{SyncRow}
use Rattle.lfs_sync.specs.declared.wanted_row.WantedRow.{WantedRow}

zip_at : {A B : Type 0} (R : A → B → Type 0) (xs : List A) (ys : List B) (i : ℕ) (d : A) (e : B) → AllZip R xs ys → i < length xs
    → R (get_or xs i d) (get_or ys i e)
zip_at R [] ys i d e are within = absurd (omega arith)
zip_at R (x ∷ xs) [] i d e are within = absurd are
zip_at R (x ∷ xs) (y ∷ ys) zero d e are within = are.0
zip_at R (x ∷ xs) (y ∷ ys) (suc i) d e are within = zip_at R xs ys i d e are.1 (omega arith)

zip_long : {A B : Type 0} (R : A → B → Type 0) (xs : List A) (ys : List B) → AllZip R xs ys → length xs ≡ length ys
zip_long R [] [] are = refl
zip_long R [] (y ∷ ys) are = absurd are
zip_long R (x ∷ xs) [] are = absurd are
zip_long R (x ∷ xs) (y ∷ ys) are = ap suc (zip_long R xs ys are.1)

pub row_at : (rows : List SyncRow) (wanted : List Shown) (i : ℕ) (d : SyncRow) (e : Shown) → AreRowsOfFolder rows wanted → i < length rows
    → IsFolderRow (get_or rows i d) (get_or wanted i e)
row_at rows wanted i d e are within = zip_at IsFolderRow rows wanted i d e are.each within

abbrev no_row : Shown
no_row = record { path = []; node = wanted_node None }

pub spelled_at : (rows : List SyncRow) (i : ℕ) (d : SyncRow) → SayFolder rows → i < length rows
    → (path : Path) × IsPathText (get_or rows i d).path.now path
spelled_at rows i d say within =
    let r = row_at rows say.0 i d no_row say.1 within in ((get_or say.0 i no_row).path, r.path)

shown : Path → Node → Shown
shown p x = record { path = p; node = x }

-- the names of a row's text are those of its path
pub one_more : TextsSpellOnePath → (rows : List SyncRow) (wanted : List Shown) (i : ℕ) (d : SyncRow) (w : WantedRow) (all : List WantedRow)
    → AreRowsOfFolder rows wanted → i < length rows → IsPathText (get_or rows i d).path.now (names w.path.items) → w.place ≡ i
    → wanted_all rows all ≡ take i wanted → wanted_all rows (all ++ w ∷ []) ≡ take (i + 1) wanted
unfolding shown
one_more texts rows wanted i d w all are within spelled place so_far =
    let e : Shown = get_or wanted i no_row in
    let r : IsFolderRow (get_or rows i d) e = row_at rows wanted i d no_row are within in
    let path : names w.path.items ≡ e.path = texts (get_or rows i d).path.now (names w.path.items) e.path spelled r.path in
    let bytes : bytes_at rows w.place ≡ folder_row_bytes (get_or rows i d) =
    ap (bytes_at rows) place ∙ ap (λ (o : Option SyncRow). option_and_then folder_row_bytes o) (slice_get-get_or rows i d within) in
    let same : wanted_shown rows w ≡ e =
    ap (λ (p : Path). shown p (wanted_node (bytes_at rows w.place))) path
    ∙ ap (λ (x : Node). shown e.path x) (ap wanted_node bytes ∙ sym r.node) in
    map-append (wanted_shown rows) all (w ∷ [])
    ∙ ap (λ (l : List Shown). l ++ wanted_shown rows w ∷ []) so_far
    ∙ ap (λ (x : Shown). take i wanted ++ x ∷ []) same
    ∙ sym (take_more wanted i no_row (omega (arith, zip_long IsFolderRow rows wanted are.each)))

pub all_are : (rows : List SyncRow) (wanted : List Shown) (i : ℕ) (all : List WantedRow) → AreRowsOfFolder rows wanted → length rows ≤ i
    → wanted_all rows all ≡ take i wanted → wanted_all rows all ≡ wanted
all_are rows wanted i all are over so_far =
    so_far ∙ take_all i wanted (omega (arith, zip_long IsFolderRow rows wanted are.each))
