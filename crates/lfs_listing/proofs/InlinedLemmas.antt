-- Files that stand in their entries, row by row.
use Rattle.std.proofs.Common.{◌≡◌, ℕ, List, [], ◌∷◌, ◌++◌, refl, ap, sym, ◌∙◌, append-nil, append_assoc}
use Rattle.lfs_fs.specs.Listed.{Listed, path_after, row_after, rows_after}
use Rattle.lfs_fs.specs.Path.{Path}
use Rattle.lfs_listing.specs.Inlined.{greater, in_entry, lines_if_longer, longer_text, longest_or}

-- lengths have nothing to do with paths
paths_aside : (p q : Path) (n : ℕ) (xs : List Listed) → longest_or n (rows_after p xs) ≡ longest_or n (rows_after q xs)
paths_aside p q n [] = refl
paths_aside p q n (x ∷ xs) =
    paths_aside (path_after p x.depth x.entry.name) (path_after q x.depth x.entry.name) (greater n (in_entry x.entry.body)) xs

-- ---- the longest of them

-- one row more is passed
pub longest_next : (n new all : ℕ) (left later : List Listed) (x : Listed) → longest_or n (rows_after [] left) ≡ all → left ≡ x ∷ later
    → new ≡ greater n (in_entry x.entry.body) → longest_or new (rows_after [] later) ≡ all
longest_next n new all left later x h first is =
    ap (λ (m : ℕ). longest_or m (rows_after [] later)) is
    ∙ paths_aside [] (path_after [] x.depth x.entry.name) (greater n (in_entry x.entry.body)) later
    ∙ ap (λ (xs : List Listed). longest_or n (rows_after [] xs)) (sym first) ∙ h

-- none is left
pub longest_last : (n all : ℕ) (left : List Listed) → longest_or n (rows_after [] left) ≡ all → left ≡ [] → n ≡ all
longest_last n all left h none = ap (λ (xs : List Listed). longest_or n (rows_after [] xs)) (sym none) ∙ h

-- ---- the lines of those that are longer

-- the line of one more row is added
pub lines_next : (most : ℕ) (text new all : List ℕ) (q next : Path) (left later : List Listed) (x : Listed)
    → text ++ longer_text most (rows_after q left) ≡ all → left ≡ x ∷ later → next ≡ path_after q x.depth x.entry.name
    → new ≡ text ++ lines_if_longer most (record { path = next; entry = x.entry }) → new ++ longer_text most (rows_after next later) ≡ all
lines_next most text new all q next left later x h first path is =
    ap (λ (t : List ℕ). t ++ longer_text most (rows_after next later)) is
    ∙ append_assoc text (lines_if_longer most (record { path = next; entry = x.entry })) (longer_text most (rows_after next later))
    ∙ ap (λ (p : Path). text ++ (lines_if_longer most (record { path = p; entry = x.entry }) ++ longer_text most (rows_after p later))) path
    ∙ ap (λ (xs : List Listed). text ++ longer_text most (rows_after q xs)) (sym first) ∙ h

-- none is left
pub lines_last : (most : ℕ) (text all : List ℕ) (q : Path) (left : List Listed) → text ++ longer_text most (rows_after q left) ≡ all → left ≡ []
    → text ≡ all
lines_last most text all q left h none =
    sym (append-nil text) ∙ ap (λ (xs : List Listed). text ++ longer_text most (rows_after q xs)) (sym none) ∙ h
