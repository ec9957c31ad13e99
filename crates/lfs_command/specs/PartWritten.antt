-- What is written of an image: changes of its blocks (own).
use Rattle.std.specs.Prelude.{◌≡◌, ℕ, nat_lt, List, [], ◌∷◌, Some, if◌then◌else◌, map, replicate}
use Rattle.lfs_block.specs.Change.{Change}
use Rattle.lfs_block.specs.Disk.{Disk, block_of}
use Rattle.lfs_block.specs.Patch.{ChangeSet}
use Rattle.lfs_meta.specs.Body.{Pair}
use Rattle.lfs_meta.specs.Part.{StoredPart}
use Rattle.lfs_pair.specs.Spelling.{part_tags}
use Rattle.lfs_pair.specs.Writing.{log_written, part_in}

-- a pair with what it holds
abbrev pub Found : Type 0
Found = Pair × StoredPart

-- the change of a block of an image
abbrev pub change_at : Disk → ℕ → List ℕ → Change
change_at d n new = record { number = n; old = block_of d n; new = new }

-- the changes of some blocks of an image
abbrev pub changes_at : Disk → List ℕ → List (List ℕ) → List Change
changes_at d [] contents = []
changes_at d (b ∷ blocks) [] = []
changes_at d (b ∷ blocks) (new ∷ contents) = change_at d b new ∷ changes_at d blocks contents

-- a change put behind those of blocks with lesser numbers
unfoldable pub with_change : Change → List Change → List Change
with_change c [] = c ∷ []
with_change c (e ∷ es) = if nat_lt e.number c.number then e ∷ with_change c es else c ∷ e ∷ es

-- the numbers of the blocks that a patch names
abbrev pub numbers_of : ChangeSet → List ℕ
numbers_of p = map (λ c. c.number) p.changes

-- The two blocks of a pair that is filled for the first time: they hold a part, of which the first one has revision 1 and one commit
-- and is erased behind it, and the second one is erased.
pub record FirstIsFilled (size : ℕ) (first second : List ℕ) : Type 0 where
  pub part : StoredPart
  pub holds : part_in first second ≡ Some part
  pub written : first ≡ log_written 1 (part_tags part) (replicate size 0xff)
  pub erased : second ≡ replicate size 0xff
