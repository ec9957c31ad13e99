-- What is gathered of rows, one after another.
use Rattle.std.proofs.Common.{◌≡◌, ℕ, ◌+◌, List, [], ◌∷◌, ◌++◌, Option, None, map, replicate, ap, sym, ◌∙◌, append_assoc, append-nil}
use Rattle.lfs_fs.specs.Directory.{Directory}
use Rattle.lfs_fs.specs.Path.{Path}
use Rattle.lfs_fs.specs.Row.{Row}
use Rattle.lfs_fs.specs.Volume.{Volume}
use Rattle.lfs_fs.specs.Listed.{Listed, path_after, row_after, rows_after, rows_listed}
use Rattle.lfs_listing.specs.BlockMap.{block_users}
use Rattle.lfs_listing.specs.Using.{given_body, given_rows}
use Rattle.lfs_listing.proofs.UsingLemmas.{given_users}

-- with the rows that are left the users are those of all rows
abbrev pub AreGiven : Volume → List Row → ℕ → List (Option ℕ) → List Row → Type 0
AreGiven v rows number us left = given_rows v.directories number us left ≡ block_users v rows

-- with the rows that are left there is one of each row
abbrev pub AreMade : {X : Type 0} → (Row → X) → List Row → List X → List Row → Type 0
AreMade f rows made left = made ++ map f left ≡ map f rows

-- no row was taken yet
pub none_given : (v : Volume) (rows : List Row) (left : List Listed) (us : List (Option ℕ)) → us ≡ replicate v.count None
    → rows_listed left ≡ rows → AreGiven v rows 0 us (rows_after [] left)
none_given v rows left us none is =
    ap (λ (xs : List (Option ℕ)). given_rows v.directories 0 xs (rows_after [] left)) none
    ∙ ap (given_rows v.directories 0 (replicate v.count None)) is ∙ given_users v rows

pub none_made : {X : Type 0} (f : Row → X) (rows : List Row) (left : List Listed) (made : List X) → made ≡ [] → rows_listed left ≡ rows
    → AreMade f rows made (rows_after [] left)
none_made f rows left made none is = ap (λ xs. xs ++ map f (rows_after [] left)) none ∙ ap (map f) is

-- one more
pub row_given : (v : Volume) (rows : List Row) (n m : ℕ) (us new : List (Option ℕ)) (ds : List Directory) (q next : Path)
    (left later : List Listed) (x : Listed) → AreGiven v rows n us (rows_after q left) → left ≡ x ∷ later → ds ≡ v.directories
    → new ≡ given_body ds n us x.entry.body → next ≡ path_after q x.depth x.entry.name → m ≡ n + 1
    → AreGiven v rows m new (rows_after next later)
row_given v rows n m us new ds q next left later x h first same given path more =
    let here : given_rows v.directories (n + 1) (given_body v.directories n us x.entry.body) (rows_after (path_after q x.depth x.entry.name) later)
    ≡ block_users v rows = ap (λ (xs : List Listed). given_rows v.directories n us (rows_after q xs)) (sym first) ∙ h in
    ap (λ (p : Path). given_rows v.directories m new (rows_after p later)) path
    ∙ ap (λ (i : ℕ). given_rows v.directories i new (rows_after (path_after q x.depth x.entry.name) later)) more
    ∙ ap (λ (xs : List (Option ℕ)). given_rows v.directories (n + 1) xs (rows_after (path_after q x.depth x.entry.name) later))
    (given ∙ ap (λ (cs : List Directory). given_body cs n us x.entry.body) same) ∙ here

pub row_made : {X : Type 0} (f : Row → X) (rows : List Row) (made longer : List X) (q next : Path) (left later : List Listed) (x : Listed)
    → AreMade f rows made (rows_after q left) → left ≡ x ∷ later → longer ≡ made ++ f (row_after q x) ∷ []
    → next ≡ path_after q x.depth x.entry.name → AreMade f rows longer (rows_after next later)
row_made f rows made longer q next left later x h first is path =
    let rest = map f (rows_after (path_after q x.depth x.entry.name) later) in
    ap (λ (p : Path). longer ++ map f (rows_after p later)) path ∙ ap (λ xs. xs ++ rest) is
    ∙ append_assoc made (f (row_after q x) ∷ []) rest
    ∙ ap (λ (xs : List Listed). made ++ map f (rows_after q xs)) (sym first) ∙ h

-- all were taken
pub all_given : (v : Volume) (rows : List Row) (n : ℕ) (us : List (Option ℕ)) (q : Path) (left : List Listed) → left ≡ []
    → AreGiven v rows n us (rows_after q left) → us ≡ block_users v rows
all_given v rows n us q left none h = ap (λ (xs : List Listed). given_rows v.directories n us (rows_after q xs)) (sym none) ∙ h

pub all_made : {X : Type 0} (f : Row → X) (rows : List Row) (made : List X) (q : Path) (left : List Listed) → left ≡ []
    → AreMade f rows made (rows_after q left) → made ≡ map f rows
all_made f rows made q left none h =
    sym (append-nil made) ∙ ap (λ (xs : List Listed). made ++ map f (rows_after q xs)) (sym none) ∙ h
