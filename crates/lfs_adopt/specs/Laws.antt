-- Laws of tidied parts and images (own).
use Rattle.std.specs.Prelude.{ℕ, ◌≡◌, ◌≤◌, ◌↔◌, ◌&&◌, false, true, List, [], ◌∷◌, map}
use Rattle.lfs_block.specs.Disk.{Disk, IsDisk}
use Rattle.lfs_fs.specs.Front.{pairs_name}
use Rattle.lfs_fs.specs.Gathering.{PairPart, delta_from}
use Rattle.lfs_fs.specs.Holds.{Holds}
use Rattle.lfs_fs.specs.Path.{Path}
use Rattle.lfs_fs.specs.Reading.{Reading, reading_of}
use Rattle.lfs_fs.specs.Sound.{IsSound}
use Rattle.lfs_fs.specs.Thread.{is_hard}
use Rattle.lfs_fs.specs.Tree.{tree}
use Rattle.lfs_fs.specs.Volume.{Volume}
use Rattle.lfs_settle.specs.InStep.{thread_parts}
use Rattle.lfs_settle.specs.Laws.{AreLinked}
use Rattle.lfs_adopt.specs.Tidied.{IsTidiedImage, can_tidy, is_empty, tidied, tidied_parts}

-- ---- lists of parts

-- no part to which a hard tail leads is empty
abbrev pub HaveEntries : List PairPart → Type 0
HaveEntries [] = Unit {0}
HaveEntries (p ∷ []) = Unit {0}
HaveEntries (p ∷ q ∷ ps) = ((is_hard p.1.tail && is_empty q.1.entries) ≡ false) × HaveEntries (q ∷ ps)

-- the law: no tidied part to which a hard tail leads is empty
abbrev pub TidiedHaveEntries : Type 0
TidiedHaveEntries = (ps : List PairPart) → HaveEntries (tidied_parts ps)

-- the law: parts that are so stay
abbrev pub TidiedStay : Type 0
TidiedStay = (ps : List PairPart) → HaveEntries ps → tidied_parts ps ≡ ps

-- the law: parts without a state have none once they are tidied
abbrev pub TidiedHaveNoState : Type 0
TidiedHaveNoState = (ps : List PairPart) → delta_from ps ≡ 0 → delta_from (tidied_parts ps) ≡ 0

-- the law: the parts that stay are one thread
abbrev pub TidiedAreLinked : Type 0
TidiedAreLinked = (ps : List PairPart) → AreLinked ps → AreLinked (tidied_parts ps)

-- the law: no block is named more often
abbrev pub TidiedNameNoMore : Type 0
TidiedNameNoMore = (ps : List PairPart) (b : ℕ) → pairs_name b (map (λ p. p.0) (tidied_parts ps)) ≤ pairs_name b (map (λ p. p.0) ps)

-- ---- images

-- the law: an image in which no part to which a hard tail leads is empty stays as it was
abbrev pub TidiedImagesStay : Type 0
TidiedImagesStay = (d e : Disk) → IsTidiedImage d e → HaveEntries (thread_parts (reading_of d)) → e ≡ d

-- the law: a tidied image holds the sound volumes that are read in the other one once it is tidied, and no other
abbrev pub TidiedImagesHoldWhatIsTidied : Type 0
TidiedImagesHoldWhatIsTidied = (d e : Disk) (v : Volume) → IsDisk d → IsTidiedImage d e → IsSound v
    → Holds (reading_of e) v ↔ Holds (tidied (reading_of d)) v

-- the law: the thread of a tidied image, if it can be tidied, is of the tidied parts
abbrev pub TidiedImagesHaveTheParts : Type 0
TidiedImagesHaveTheParts = (d e : Disk) → IsTidiedImage d e → can_tidy (reading_of d) ≡ true
    → thread_parts (reading_of e) ≡ tidied_parts (thread_parts (reading_of d))

-- ---- trees

-- a volume has the tree of another one, as many blocks of the same size, and the same limits and attributes of the root
pub record HasTheTreeOf (v w : Volume) : Type 0 where
  pub at : (path : Path) → tree w path ≡ tree v path
  pub size : w.size ≡ v.size
  pub count : w.count ≡ v.count
  pub limits : w.limits ≡ v.limits
  pub attributes : w.attributes ≡ v.attributes

-- an image holds a sound volume with the tree of this one
pub record HoldsTheTreeOf (r : Reading) (v : Volume) : Type 0 where
  pub volume : Volume
  pub holds : Holds r volume
  pub sound : IsSound volume
  pub same : HasTheTreeOf v volume

-- the law: what holds a sound volume holds its tree once it is tidied
abbrev pub TidiedKeepTheTree : Type 0
TidiedKeepTheTree = (r : Reading) (v : Volume) → IsSound v → Holds r v → HoldsTheTreeOf (tidied r) v

-- the law: and so does a tidied image
abbrev pub TidiedImagesKeepTheTree : Type 0
TidiedImagesKeepTheTree = (d e : Disk) (v : Volume) → IsDisk d → IsTidiedImage d e → IsSound v → Holds (reading_of d) v
    → HoldsTheTreeOf (reading_of e) v
