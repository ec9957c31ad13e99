-- An exact change of an image, and its reverse (own).
use Rattle.std.specs.Prelude.{◌≡◌, ◌≢◌, ℕ, ◌<◌, ◌≤◌, List, [], ◌∷◌, None, map, max}
use Rattle.std.specs.List.{AllByRecursion}
use Rattle.lfs_block.specs.Change.{Change, IsRising, IsBlockChange, change_of, flip}
use Rattle.lfs_block.specs.Disk.{Disk, block_at, block_of, erased_block, put, resized}
use Rattle.lfs_block.specs.Geometry.{IsGeometry}

-- The meaning of a `Patch`: its Model's Value. The block size, how many blocks the image has before and after, and the changes of
-- its blocks.
pub record ChangeSet : Type 0 where
  pub size : ℕ
  pub before : ℕ
  pub after : ℕ
  pub changes : List Change

-- A change of a block that is there before or after. A block that isn't there before is erased before, one that isn't there after is
-- erased after.
pub record IsChangeIn (size before after : ℕ) (c : Change) : Type 0 where
  pub complete : IsBlockChange size c
  pub within : c.number < max before after
  pub old : before ≤ c.number → c.old ≡ erased_block size
  pub new : after ≤ c.number → c.new ≡ erased_block size

pub record IsPatch (p : ChangeSet) : Type 0 where
  pub some : p.changes ≢ []
  pub rising : IsRising p.changes
  pub before : IsGeometry p.size p.before
  pub after : IsGeometry p.size p.after
  pub each : AllByRecursion (IsChangeIn p.size p.before p.after) p.changes

-- a patch that doesn't cut: what holds of every `Patch`
pub record IsGrowth (p : ChangeSet) : Type 0 where
  pub patch : IsPatch p
  pub rise : p.before ≤ p.after

-- before and after change places
abbrev pub flipped : ChangeSet → ChangeSet
flipped p = record { size = p.size; before = p.after; after = p.before; changes = map flip p.changes }

-- these bytes are a block of the image
abbrev pub IsBlockAt : Disk → ℕ → List ℕ → Type 0
IsBlockAt d n bytes = (n < d.count) × (block_of d n ≡ bytes)

-- what a change of a block of the image finds before it is made is there
abbrev pub Stands : Disk → Change → Type 0
Stands d c = IsBlockAt d c.number c.old

-- the same of a block that may lie behind the image's end
abbrev pub AgreesAt : Disk → Change → Type 0
AgreesAt d c = block_at d c.number ≡ c.old

-- The image is what the patch was made of: of its size and its count before, with the old bytes. A block that is not there after, and
-- that the patch doesn't name, is erased.
pub record AgreesOld (p : ChangeSet) (d : Disk) : Type 0 where
  pub size : p.size ≡ d.size
  pub count : p.before ≡ d.count
  pub stand : AllByRecursion (AgreesAt d) p.changes
  pub rest : (n : ℕ) → p.after ≤ n → change_of n p.changes ≡ None → block_at d n ≡ erased_block d.size

-- the image is what the patch makes
abbrev pub AgreesNew : ChangeSet → Disk → Type 0
AgreesNew p d = AgreesOld (flipped p) d

-- these bytes are found where the image has the block; nothing is looked at behind its end
abbrev pub FindsAt : Disk → ℕ → List ℕ → Type 0
FindsAt d n bytes = n < d.count → block_of d n ≡ bytes

-- a look at the block finds what it holds before its change, or after it
abbrev pub FindsOld : Disk → Change → Type 0
FindsOld d c = FindsAt d c.number c.old

abbrev pub FindsNew : Disk → Change → Type 0
FindsNew d c = FindsAt d c.number c.new

-- each block that the patch adds, and doesn't name, is erased
abbrev pub LeavesErased : ChangeSet → Disk → Type 0
LeavesErased p d = (n : ℕ) → p.before ≤ n → n < p.after → change_of n p.changes ≡ None → block_of d n ≡ erased_block d.size

-- the image with each of the changes made
abbrev pub put_all : List Change → Disk → Disk
put_all [] d = d
put_all (c ∷ cs) d = put_all cs (put c.number c.new d)

-- the image is lengthened where it needs to be, the changes are made, and it is cut where it needs to be
abbrev pub applied : ChangeSet → Disk → Disk
applied p d = resized p.after (put_all p.changes (resized (max p.before p.after) d))

abbrev pub reverted : ChangeSet → Disk → Disk
reverted p d = applied (flipped p) d
