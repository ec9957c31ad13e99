-- How many rows there are.
use Rattle.std.proofs.Common.{◌≡◌, ℕ, ◌+◌, ◌-◌, ◌≤◌, Bool, true, false, List, [], ◌∷◌, refl, ◌∙◌, arith, map, length, cond}
use Rattle.std.specs.Prelude.{count_by, not}
use Rattle.std.proofs.lemmas.List.{length-map}
use Rattle.std.proofs.lemmas.List.Sums.{sum_by-cons}
use Rattle.lfs_fs.specs.declared.place.Place.{Place}
use Rattle.lfs_fs.specs.Path.{Path}
use Rattle.lfs_fs.specs.Entry.{leads}
use Rattle.lfs_fs.specs.Volume.{Volume}
use Rattle.lfs_fs.specs.Row.{Row}
use Rattle.lfs_fs.specs.Listed.{Listed, path_after, rows_after}
use Rattle.lfs_fs.specs.Placed.{listed_at, rows_of}
use Rattle.lfs_fs.specs.Ordered.{AreCounted, file_count_of}

one_of : (b : Bool) → cond {A = ℕ} b 1 0 + cond {A = ℕ} (not b) 1 0 ≡ 1
one_of true = refl
one_of false = refl

-- each passes or doesn't
both_counts : {X : Type 0} (p : X → Bool) (xs : List X) → count_by p xs + count_by (λ x. not (p x)) xs ≡ length xs
both_counts p [] = refl
both_counts {X} p (x ∷ xs) = omega (
  arith,
  both_counts p xs,
  one_of (p x),
  sum_by-cons (λ (y : X). cond {A = ℕ} (p y) 1 0) x xs,
  sum_by-cons (λ (y : X). cond {A = ℕ} (not (p y)) 1 0) x xs,
)

length_rows : (q : Path) (xs : List Listed) → length (rows_after q xs) ≡ length xs
length_rows q [] = refl
length_rows q (x ∷ xs) = omega (arith, length_rows (path_after q x.depth x.entry.name) xs)

-- the places that aren't of directories are of files
pub files_left : (v : Volume) (places : List Place) → AreCounted v (rows_of v places)
    → (length v.directories ≤ length places) × (length places - length v.directories ≡ file_count_of v)
    × (length places - length v.directories ≡ count_by (λ (r : Row). not (leads r.entry)) (rows_of v places))
files_left v places counted =
    let all = both_counts (λ (r : Row). leads r.entry) (rows_of v places) in
    let len : length (rows_of v places) ≡ length places = length_rows [] (map (listed_at v) places) ∙ length-map places (listed_at v) in
    let dirs = counted.directories in
    let files = counted.files in
    (omega (arith, all, len, dirs), omega (arith, all, len, dirs, files), omega (arith, all, len, dirs))
