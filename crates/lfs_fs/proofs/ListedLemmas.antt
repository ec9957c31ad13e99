-- Paths that are found again from depths and names.
use Rattle.std.proofs.Common.{◌≡◌, ℕ, List, [], ◌∷◌, ◌++◌, refl, ap, sym, ◌∙◌, map, take, length, append-nil, append_assoc, suc, arith}
use Rattle.std.proofs.Math.Seq.{take-append_seam}
use Rattle.std.proofs.lemmas.List.{length-append}
use Rattle.lfs_fs.specs.Path.{Path}
use Rattle.lfs_fs.specs.Entry.{Entry}
use Rattle.lfs_fs.specs.Row.{Row}
use Rattle.lfs_fs.specs.Listed.{Listed, path_after, row_after, rows_after, last_after}
use Rattle.lfs_fs.specs.Ordered.{Begins, Follow}

-- one more is listed
pub rows_more : (q : Path) (xs : List Listed) (x : Listed) → rows_after q (xs ++ x ∷ [])
    ≡ rows_after q xs ++ row_after (last_after q xs) x ∷ []
rows_more q [] x = refl
rows_more q (y ∷ xs) x = ap (λ (rs : List Row). row_after q y ∷ rs) (rows_more (path_after q y.depth y.entry.name) xs x)

pub last_more : (q : Path) (xs : List Listed) (x : Listed) → last_after q (xs ++ x ∷ []) ≡ path_after (last_after q xs) x.depth x.entry.name
last_more q [] x = refl
last_more q (y ∷ xs) x = last_more (path_after q y.depth y.entry.name) xs x

-- ---- beginnings

pub begins_itself : (p : Path) → Begins p p
begins_itself p = ([], sym (append-nil p))

pub begins_through : (p q r : Path) → Begins p q → Begins q r → Begins p r
begins_through p q r (a, is) (b, is') = (a ++ b, is' ∙ ap (λ (x : Path). x ++ b) is ∙ append_assoc p a b)

-- what follows a beginning follows the whole
pub follow_longer : (p q : Path) (xs : List Listed) (rs : List Row) → Begins p q → Follow p xs rs → Follow q xs rs
follow_longer p q [] [] begins h = tt
follow_longer p q [] (r ∷ rs) begins h = absurd h
follow_longer p q (x ∷ xs) [] begins h = absurd h
follow_longer p q (x ∷ xs) (r ∷ rs) begins (u, before, own, deep, again, rest) =
    (u, begins_through u p q before begins, own, deep, again, rest)

-- ---- what stands below a path

-- an entry below a path, as listed and as a row
abbrev pub listed_below : ℕ → Entry → Listed
listed_below k e = record { depth = k; entry = e }

abbrev pub row_below : Path → Entry → Row
row_below p e = record { path = p ++ e.name ∷ []; entry = e }

below_again : (p after : Path) (k : ℕ) (e : Entry) → k ≡ suc (length p) → Begins p after
    → row_after after (listed_below k e) ≡ row_below p e
below_again p after k e is (rest, begins) =
    let path : path_after after k e.name ≡ p ++ e.name ∷ [] =
    ap (λ (i : ℕ). path_after after i e.name) is ∙ ap (λ (q : Path). take (length p) q ++ e.name ∷ []) begins
    ∙ ap (λ (q : Path). q ++ e.name ∷ []) (take-append_seam p rest) in
    ap (λ (q : Path). record { path = q; entry = e }) path

-- the entries of a directory, put before what follows its path
pub follow_below : (p : Path) (k : ℕ) (es : List Entry) (xs : List Listed) (rs : List Row) → k ≡ suc (length p) → Follow p xs rs
    → Follow p (map (listed_below k) es ++ xs) (map (row_below p) es ++ rs)
follow_below p k [] xs rs is h = h
follow_below p k (e ∷ es) xs rs is h = (
  p,
  begins_itself p,
  (e.name ∷ [], refl),
  omega (arith, length-append p (e.name ∷ [])),
  (λ after begins. below_again p after k e is begins),
  follow_below p k es xs rs is h,
)
