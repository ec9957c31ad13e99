-- Rows less their paths, which are found again from depths and names (own).
use Rattle.std.specs.Prelude.{ℕ, zero, suc, List, [], ◌∷◌, ◌++◌, take}
use Rattle.lfs_fs.specs.Path.{Path}
use Rattle.lfs_fs.specs.Entry.{Entry}
use Rattle.lfs_fs.specs.Row.{Row}

-- an entry with the number of names in its path
pub record Listed : Type 0 where
  pub depth : ℕ
  pub entry : Entry

-- the path of so many names with this last one, after a path that begins with the others; a name may be kept in any form
abbrev pub path_after : {A : Type 0} → List A → ℕ → A → List A
path_after q zero n = []
path_after q (suc k) n = take k q ++ n ∷ []

-- the row of what is listed after a path
abbrev pub row_after : Path → Listed → Row
row_after q x = record { path = path_after q x.depth x.entry.name; entry = x.entry }

-- the rows of what is listed after a path
abbrev pub rows_after : Path → List Listed → List Row
rows_after q [] = []
rows_after q (x ∷ xs) = row_after q x ∷ rows_after (path_after q x.depth x.entry.name) xs

-- the rows of what is listed from the root on
abbrev pub rows_listed : List Listed → List Row
rows_listed xs = rows_after [] xs

-- the path of the last that is listed after a path
abbrev pub last_after : Path → List Listed → Path
last_after q [] = q
last_after q (x ∷ xs) = last_after (path_after q x.depth x.entry.name) xs
