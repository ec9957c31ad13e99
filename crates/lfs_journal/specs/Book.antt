-- A journal: the changes of an image that were made and that were taken back, and their bytes (own).
use Rattle.std.specs.Prelude.{◌≡◌, ◌⊎◌, ℕ, ◌*◌, ◌≤◌, ◌==◌, List, [], ◌++◌, if◌then◌else◌, length, take, drop, flat_map, codes}
use Rattle.std.specs.Int.{w32, to_le_bytes}
use Rattle.std.specs.List.{AllByRecursion}
use Rattle.lfs_block.specs.Change.{Change}
use Rattle.lfs_block.specs.Geometry.{IsGeometry}
use Rattle.lfs_block.specs.Patch.{ChangeSet, IsGrowth}

-- The meaning of a `Journal`: its Model's Value. The block size of the image, how many blocks it has between the changes that are
-- done and those that are undone, the changes in the order in which they were made (`done`), and in the order in which they are made
-- again (`undone`).
pub record Book : Type 0 where
  pub size : ℕ
  pub count : ℕ
  pub done : List ChangeSet
  pub undone : List ChangeSet

-- the book of one list of changes, of which so many are done
abbrev pub book_of : ℕ → ℕ → List ChangeSet → ℕ → Book
book_of size count patches done = record { size = size; count = count; done = take done patches; undone = drop done patches }

-- a block's number, its bytes before and its bytes after; each number is four bytes, the lowest first
abbrev pub change_bytes : Change → List ℕ
change_bytes c = to_le_bytes w32 c.number ++ c.old ++ c.new

-- how many blocks the image has before a change and after it; version 1 doesn't say so
abbrev pub counts_bytes : ℕ → ChangeSet → List ℕ
counts_bytes version p = if version == 1 then [] else to_le_bytes w32 p.before ++ to_le_bytes w32 p.after

-- the number of the change's blocks, the counts, then each of the blocks
abbrev pub patch_bytes_in : ℕ → ChangeSet → List ℕ
patch_bytes_in version p = to_le_bytes w32 (length p.changes) ++ counts_bytes version p ++ flat_map change_bytes p.changes

-- the letters and the version, the block size and the number of blocks, the number of changes that are done and of those
-- that are undone, then the changes
unfoldable pub bytes_in : ℕ → Book → List ℕ
bytes_in version j =
    codes "lfsj" ++ to_le_bytes w32 version ++ to_le_bytes w32 j.size ++ to_le_bytes w32 j.count
    ++ to_le_bytes w32 (length j.done) ++ to_le_bytes w32 (length j.undone) ++ flat_map (patch_bytes_in version) (j.done ++ j.undone)

-- as it is written: version 2
abbrev pub patch_bytes : ChangeSet → List ℕ
patch_bytes p = patch_bytes_in 2 p

abbrev pub journal_bytes : Book → List ℕ
journal_bytes j = bytes_in 2 j

-- how many bytes more version 2 takes for so many changes
abbrev pub respelling : ℕ → ℕ → ℕ
respelling version many = if version == 1 then 8 * many else 0

-- a change of blocks of one size, which doesn't cut
abbrev pub IsPatchOf : ℕ → ChangeSet → Type 0
IsPatchOf size p = IsGrowth p × (p.size ≡ size)

-- the most changes that are kept, done and undone
abbrev pub most_changes : ℕ
most_changes = 1000

-- the image keeps the limits of images, the changes are of blocks of its size, and there are not too many of them
pub record IsBook (j : Book) : Type 0 where
  pub geometry : IsGeometry j.size j.count
  pub each : AllByRecursion (IsPatchOf j.size) (j.done ++ j.undone)
  pub few : length (j.done ++ j.undone) ≤ most_changes

-- the image has so many blocks before the change and after it
abbrev pub KeepsAt : ℕ → ChangeSet → Type 0
KeepsAt count p = (p.before ≡ count) × (p.after ≡ count)

-- no change lengthens the image
abbrev pub KeepsCount : Book → Type 0
KeepsCount j = AllByRecursion (KeepsAt j.count) (j.done ++ j.undone)

-- version 2 spells each journal, version 1 those in which no change lengthens the image
abbrev pub IsVersionOf : ℕ → Book → Type 0
IsVersionOf version j = (version ≡ 2) ⊎ ((version ≡ 1) × KeepsCount j)

-- the bytes spell the journal, in one of the versions
pub record SpellsJournal (bytes : List ℕ) (j : Book) : Type 0 where
  pub book : IsBook j
  pub version : ℕ
  pub version_is : IsVersionOf version j
  pub bytes_are : bytes_in version j ≡ bytes

-- one list of changes, of which so many are done, is a book
pub record IsBookOf (size count : ℕ) (patches : List ChangeSet) (done : ℕ) : Type 0 where
  pub within : done ≤ length patches
  pub book : IsBook (book_of size count patches done)

-- the most bytes that a journal has: 1,000 changes of all blocks of a largest image
abbrev pub most_journal : ℕ
most_journal = 134479884024
