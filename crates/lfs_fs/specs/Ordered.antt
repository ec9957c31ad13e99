-- A walk over the directories of a volume from the root: what is listed, what waits and what was opened (own).
use Rattle.std.specs.Prelude.{◌≡◌, ℕ, bytes_eq, not, ◌+◌, ◌-◌, ◌≤◌, Bool, true, false, List, [], ◌∷◌, ◌++◌, Some, None, All, Contains}
use Rattle.std.specs.Prelude.{if◌then◌else◌, sum_by, count_by, map, length, set, slice_get}
use Rattle.lfs_block.specs.declared.mount_fault.MountFault.{MountFault}
use Rattle.lfs_block.specs.declared.mount_fault.MountFault.TheVariants.{MissingDirectory, BlockTwice, Orphan, Memory}
use Rattle.lfs_meta.specs.Name.{Name}
use Rattle.lfs_meta.specs.Body.{Pair}
use Rattle.lfs_fs.specs.declared.place.Place.{Place}
use Rattle.lfs_fs.specs.Path.{Path}
use Rattle.lfs_fs.specs.Pair.{root}
use Rattle.lfs_fs.specs.Entry.{Entry, target, leads}
use Rattle.lfs_fs.specs.Directory.{Directory, parts, entries, key, begins_at}
use Rattle.lfs_fs.specs.Volume.{Volume}
use Rattle.lfs_fs.specs.Tree.{entry_at, top, Reached}
use Rattle.lfs_fs.specs.Named.{leads_to, names_of, named}
use Rattle.lfs_fs.specs.Sound.{StartsAtRoot, Rise}
use Rattle.lfs_fs.specs.EntryFault.{NamesNoDirectory, LosesDirectory}
use Rattle.lfs_fs.specs.NameOrder.{precedes}
use Rattle.lfs_fs.specs.Row.{path_precedes, Row, AreRows}
use Rattle.lfs_fs.specs.Listed.{Listed, row_after, last_after}
use Rattle.lfs_fs.specs.Placed.{ArePlaces, listed_at, rows_of, places_in}
use Rattle.lfs_fs.specs.DirectoryTable.{look_up, IsTableOf}

-- ---- what is asked and what is found

-- no two directories have one pair, and in each the names rise
pub record IsWalkable (v : Volume) : Type 0 where
  pub starts : StartsAtRoot v.directories
  pub once : (k : Pair) → count_by (begins_at k) v.directories ≤ 1
  pub order : All (λ d. Rise (entries d)) v.directories

-- how many of a volume's entries lead to no directory
abbrev pub file_count_of : Volume → ℕ
file_count_of v = sum_by (λ d. count_by (λ e. not (leads e)) (entries d)) v.directories

-- as many rows show directories as there are, and as many show files as there are
pub record AreCounted (v : Volume) (rows : List Row) : Type 0 where
  pub directories : count_by (λ r. leads r.entry) rows ≡ length v.directories
  pub files : count_by (λ r. not (leads r.entry)) rows ≡ file_count_of v

-- the rows are the volume's, each of whose directories is named once and reached
pub record IsListed (v : Volume) (rows : List Row) : Type 0 where
  pub listed : AreRows (entry_at v) rows
  pub names : (k : Pair) → named k v ≡ count_by (begins_at k) v.directories
  pub reached : All (λ d. Reached v (key d)) v.directories
  pub counted : AreCounted v rows

-- why a volume isn't listed
abbrev pub WalkCause : Volume → MountFault → Type 0
WalkCause v MissingDirectory = NamesNoDirectory v
WalkCause v BlockTwice = (k : Pair) × (2 ≤ named k v)
WalkCause v Orphan = LosesDirectory v
WalkCause v Memory = Unit {0}
WalkCause v _ = ⊥

-- ---- what was opened

-- a sum over what is flagged
abbrev pub flagged : {X : Type 0} → (X → ℕ) → List X → List Bool → ℕ
flagged f [] flags = 0
flagged f (x ∷ xs) [] = 0
flagged f (x ∷ xs) (b ∷ flags) = (if b then f x else 0) + flagged f xs flags

-- one, where a directory begins at a pair
abbrev pub begun_at : Pair → Directory → ℕ
begun_at k d = if begins_at k d then 1 else 0

-- how many directories that begin at a pair were opened
abbrev pub times_opened : Volume → Pair → List Bool → ℕ
times_opened v k opened = flagged (begun_at k) v.directories opened

-- ---- the order of what waits

-- the paths differ in a name, where the first one's precedes
abbrev pub apart : Path → Path → Bool
apart [] q = false
apart (n ∷ p) [] = false
apart (n ∷ p) (m ∷ q) = if bytes_eq n m then apart p q else precedes n m

-- each is apart from all later ones
abbrev pub AreApart : List Path → Type 0
AreApart [] = Unit {0}
AreApart (p ∷ ps) = All (λ q. apart p q ≡ true) ps × AreApart ps

-- each path comes before all later ones
abbrev pub PathsRise : List Path → Type 0
PathsRise [] = Unit {0}
PathsRise (p ∷ ps) = All (λ q. path_precedes p q ≡ true) ps × PathsRise ps

-- ---- the state of a walk

abbrev pub row_paths : List Row → List Path
row_paths rows = map (λ r. r.path) rows

-- what stands at the row's path
abbrev pub HasRow : Volume → Row → Type 0
HasRow v r = entry_at v r.path ≡ Some r.entry

-- what is listed at a path was opened if it leads to a directory, and what stands below was met
pub record IsOpened (v : Volume) (opened : List Bool) (met : List Path) (p : Path) : Type 0 where
  pub named : (e : Entry) (k : Pair) → entry_at v p ≡ Some e → target e ≡ Some k → 1 ≤ times_opened v k opened
  pub below : (n : Name) (e : Entry) → entry_at v (p ++ n ∷ []) ≡ Some e → Contains met (p ++ n ∷ [])

-- rows are listed, a queue waits, and directories were opened
pub record IsWalkTo (v : Volume) (rows queue : List Row) (opened : List Bool) : Type 0 where
  pub walkable : IsWalkable v
  pub flags : length opened ≡ length v.directories
  pub right : All (HasRow v) rows
  pub waits : All (HasRow v) queue
  pub rise : PathsRise (row_paths rows ++ row_paths queue)
  pub distinct : AreApart (row_paths queue)
  pub begun : Contains (row_paths rows ++ row_paths queue) []
  pub done : All (IsOpened v opened (row_paths rows ++ row_paths queue)) (row_paths rows)
  pub reached : (k : Pair) → 1 ≤ times_opened v k opened → Reached v k
  -- each name of what was opened is of what was opened or of what waits
  pub counts : (k : Pair) → leads_to k (Some root) + flagged (names_of k) v.directories opened
      ≡ times_opened v k opened + sum_by (λ r. leads_to k (target r.entry)) queue
  -- what was opened is listed or waits
  pub tally : (f : Entry → ℕ) → f (top v) + flagged (λ d. sum_by f (entries d)) v.directories opened
      ≡ sum_by (λ r. f r.entry) rows + sum_by (λ r. f r.entry) queue
  -- what was listed of directories was opened
  pub folders : count_by (λ r. leads r.entry) rows ≡ flagged (λ d. 1) v.directories opened

-- ---- places in place of rows

-- one path begins another
abbrev pub Begins : Path → Path → Type 0
Begins p q = (rest : Path) × (q ≡ p ++ rest)

-- The rows of what is listed next, after a path: the path of each is found again after whatever begins with some path, and
-- that path begins its own, and those of what was met before.
abbrev pub Follow : Path → List Listed → List Row → Type 0
Follow q [] [] = Unit {0}
Follow q [] (r ∷ rs) = ⊥
Follow q (x ∷ xs) [] = ⊥
Follow q (x ∷ xs) (r ∷ rs) = (p : Path) × Begins p q × Begins p r.path
    × (x.depth ≡ length r.path) × ((after : Path) → Begins p after → row_after after x ≡ r) × Follow p xs rs

-- an order of places is listed, others wait, and directories were opened
pub record IsWalking (v : Volume) (table : List (Pair × ℕ)) (order waiting : List Place) (opened : List Bool) : Type 0 where
  pub directories : IsTableOf v.directories table
  pub queue : List Row
  pub follow : Follow (last_after [] (map (listed_at v) order)) (map (listed_at v) waiting) queue
  pub walk : IsWalkTo v (rows_of v order) queue opened
  pub listed : ArePlaces v order
  pub wait : ArePlaces v waiting
  -- no place is deeper than the number of those that are listed
  pub shallow : All (λ p. p.depth ≤ length order) waiting

-- ---- steps of a walk

-- a directory is opened, which wasn't
pub record OpensDirectory (table : List (Pair × ℕ)) (k : Pair) (opened more : List Bool) (i : ℕ) : Type 0 where
  pub there : look_up k table ≡ Some i
  pub new : slice_get opened i ≡ Some false
  pub noted : more ≡ set opened i true

-- why none is
abbrev pub NotOpened : List (Pair × ℕ) → Pair → List Bool → MountFault → Type 0
NotOpened table k opened MissingDirectory = look_up k table ≡ None
NotOpened table k opened BlockTwice = (i : ℕ) × (look_up k table ≡ Some i) × (slice_get opened i ≡ Some true)
NotOpened table k opened _ = ⊥

-- a directory is opened, and the places of its entries are put before what waits
pub record Enters (ds : List Directory) (table : List (Pair × ℕ)) (k : Pair) (depth : ℕ) (opened more : List Bool)
    (waiting longer : List Place) : Type 0 where
  pub index : ℕ
  pub directory : Directory
  pub opens : OpensDirectory table k opened more index
  pub there : slice_get ds index ≡ Some directory
  pub begins : begins_at k directory ≡ true
  pub pushed : longer ≡ places_in depth index 0 (parts directory) ++ waiting

-- what a walk has still to do: places that wait, and those of directories that weren't opened
abbrev pub work : Volume → List Place → List Bool → ℕ
work v waiting opened = length waiting + (sum_by (λ d. length (entries d)) v.directories
    - flagged (λ d. length (entries d)) v.directories opened)
