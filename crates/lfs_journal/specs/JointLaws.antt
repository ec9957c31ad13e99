-- What holds of changes that are made as one (own).
use Rattle.std.specs.Prelude.{◌≡◌, ◌⊎◌, ℕ, ◌+◌, ◌≤◌, List, [], ◌∷◌, ◌++◌, length, map, Contains}
use Rattle.lfs_block.specs.Change.{Change}
use Rattle.lfs_block.specs.Disk.{Disk, IsDisk}
use Rattle.lfs_block.specs.Patch.{ChangeSet, IsGrowth, AgreesOld, AgreesNew, applied, reverted}
use Rattle.lfs_journal.specs.Joined.{FollowOn, LeadBack, applied_all, composed, reverted_all, together}

-- one patch makes of an image what others make of it, one after another
pub record IsJoint (r : ChangeSet) (d e : Disk) : Type 0 where
  pub growth : IsGrowth r
  pub stands : AgreesOld r d
  pub same : applied r d ≡ e

-- and backwards
pub record IsJointBack (r : ChangeSet) (d e : Disk) : Type 0 where
  pub growth : IsGrowth r
  pub stands : AgreesNew r d
  pub same : reverted r d ≡ e

-- two patches applied as one are the two applied one after the other
abbrev pub ComposedApplies : Type 0
ComposedApplies = (p q : ChangeSet) (d : Disk) → IsDisk d → IsGrowth p → IsGrowth q → AgreesOld p d → AgreesOld q (applied p d)
    → IsJoint (composed p q) d (applied q (applied p d))

-- and reverted as one they are the two reverted, the second first
abbrev pub ComposedReverts : Type 0
ComposedReverts = (p q : ChangeSet) (d : Disk) → IsDisk d → IsGrowth p → IsGrowth q → AgreesNew q d → AgreesNew p (reverted q d)
    → IsJointBack (composed p q) d (reverted p (reverted q d))

-- the same of any list of them
abbrev pub TogetherApplies : Type 0
TogetherApplies = (p : ChangeSet) (qs : List ChangeSet) (d : Disk) → IsDisk d → FollowOn (p ∷ qs) d
    → IsJoint (together p qs) d (applied_all (p ∷ qs) d)

abbrev pub TogetherReverts : Type 0
TogetherReverts = (p : ChangeSet) (qs : List ChangeSet) (d : Disk) → IsDisk d → LeadBack (p ∷ qs) d
    → IsJointBack (together p qs) d (reverted_all (p ∷ qs) d)

-- the composed patch names no more blocks than the two do
abbrev pub ComposedIsShort : Type 0
ComposedIsShort = (p q : ChangeSet) → length (composed p q).changes ≤ length p.changes + length q.changes

-- a block that it names is named by one of them
abbrev pub ComposedNames : Type 0
ComposedNames = (p q : ChangeSet) (n : ℕ) → Contains (map (λ (c : Change). c.number) (composed p q).changes) n
    → Contains (map (λ (c : Change). c.number) p.changes) n ⊎ Contains (map (λ (c : Change). c.number) q.changes) n

-- how many blocks they name, all in all
abbrev pub blocks_named : List ChangeSet → ℕ
blocks_named [] = 0
blocks_named (p ∷ ps) = length p.changes + blocks_named ps

-- nor does one of any list name more
abbrev pub TogetherIsShort : Type 0
TogetherIsShort = (p : ChangeSet) (qs : List ChangeSet) → length (together p qs).changes ≤ blocks_named (p ∷ qs)

-- one more behind others
abbrev pub OneMoreTogether : Type 0
OneMoreTogether = (p : ChangeSet) (qs : List ChangeSet) (q : ChangeSet) → together p (qs ++ q ∷ []) ≡ composed (together p qs) q
