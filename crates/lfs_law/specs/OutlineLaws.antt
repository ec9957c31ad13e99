-- Laws of what is written of an outline (own).
use Rattle.std.specs.Prelude.{◌≡◌, ℕ, ◌<◌, ◌≤◌, ◌+◌, Bool, true, false, List, [], ◌∷◌, ◌++◌, length, Some, Contains}
use Rattle.std.specs.List.{AllByRecursion}
use Rattle.lfs_block.specs.Change.{Change, IsRising}
use Rattle.lfs_block.specs.Disk.{Disk, IsDisk}
use Rattle.lfs_block.specs.Patch.{ChangeSet, IsPatch, AgreesOld, applied}
use Rattle.lfs_meta.specs.Attribute.{Attributes}
use Rattle.lfs_meta.specs.Body.{Pair}
use Rattle.lfs_pair.specs.Difference.{Forced}
use Rattle.lfs_fs.specs.AsStored.{head_of}
use Rattle.lfs_fs.specs.Entry.{Body, Inline, Chain, Directory_at, Entry}
use Rattle.lfs_fs.specs.Outlined.{outlined}
use Rattle.lfs_fs.specs.Pair.{root}
use Rattle.lfs_fs.specs.Volume.{Volume}
use Rattle.lfs_fs.specs.Thread.{Link, links}
use Rattle.lfs_fs.specs.Uses.{times, uses}
use Rattle.lfs_fs.specs.Reading.{Reading, reading_of}
use Rattle.lfs_command.specs.Need.{is_new_to}
use Rattle.lfs_command.specs.PairChanged.{ChangesPairs}
use Rattle.lfs_command.specs.Planned.{FillsNewPairs}
use Rattle.lfs_law.specs.Written.{Writes}
use Rattle.lfs_law.specs.WrittenLinks.{ChangesLinks, changed_blocks, set_uses, CanBeMade, IsFreeFor, AddsLink, AreWritten}

-- the law: a link that is set is written behind others, where no two of them, nor the base, use one block
abbrev pub LinksAreAdded : Type 0
LinksAreAdded = (d : Disk) (bytes : List ℕ) (attributes : Attributes) (is_new : Pair → Bool)
    (base : List Change) (ls : List Link) (l : Link) (old new : List Change)
    → l.part.dirty ≡ true → ((n : ℕ) → times n (changed_blocks base) + set_uses n (ls ++ l ∷ []) ≤ 1)
    → AreWritten d bytes attributes is_new base ls old → AddsLink d bytes attributes is_new l old new
    → AreWritten d bytes attributes is_new base (ls ++ l ∷ []) new

-- the law: there is no change of its pair's blocks before
abbrev pub LinksAreFree : Type 0
LinksAreFree = (d : Disk) (bytes : List ℕ) (attributes : Attributes) (is_new : Pair → Bool)
    (base : List Change) (ls : List Link) (l : Link) (old : List Change)
    → l.part.dirty ≡ true → ((n : ℕ) → times n (changed_blocks base) + set_uses n (ls ++ l ∷ []) ≤ 1)
    → AreWritten d bytes attributes is_new base ls old → IsFreeFor d l.part.pair old

-- the law: the base alone writes no link
abbrev pub NoLinksAreWritten : Type 0
NoLinksAreWritten = (d : Disk) (bytes : List ℕ) (attributes : Attributes) (is_new : Pair → Bool)
    (base : List Change) → IsRising base → AllByRecursion (CanBeMade d) base
    → AreWritten d bytes attributes is_new base [] base

-- the law: one that isn't set asks for no change
abbrev pub LinksAreLeft : Type 0
LinksAreLeft = (d : Disk) (bytes : List ℕ) (attributes : Attributes) (is_new : Pair → Bool)
    (base : List Change) (ls : List Link) (l : Link) (cs : List Change)
    → l.part.dirty ≡ false → AreWritten d bytes attributes is_new base ls cs → AreWritten d bytes attributes is_new base (ls ++ l ∷ []) cs

-- a chain is there, by its last block and its length, with its contents
abbrev pub IsThere : Reading → Body → Type 0
IsThere r (Inline bytes) = Unit {0}
IsThere r (Chain blocks bytes) = (r.chain (head_of blocks) (length bytes) ≡ Some blocks) × (bytes ≡ r.content (length bytes) blocks)
IsThere r (Directory_at pair) = Unit {0}

-- A patch, which keeps the count, writes the outline of the volume w over the volume v whose parts an image holds: its links, beside
-- other changes of blocks that v doesn't use. The chains of w are there. The superblock has the bytes `old` before and `new` then; they
-- stay, and so do the root's attributes, where the root's first part does.
pub record WritesOutline (d : Disk) (v w : Volume) (old new : List ℕ)
    (is_new : Pair → Bool) (base : List Change) (p : ChangeSet) : Type 0 where
  pub disk : IsDisk d
  pub patch : IsPatch p
  pub stands : AgreesOld p d
  pub keeps : p.after ≡ p.before
  pub unused : (n : ℕ) → 0 < uses n v → times n (changed_blocks base) ≡ 0
  pub written : AreWritten d new w.attributes is_new base (links (outlined w).directories) p.changes
  pub there : (l : Link) → Contains (links w.directories) l → (e : Entry) → Contains l.part.entries e
      → IsThere (reading_of (applied p d)) e.body
  pub superblock : (l : Link) → Contains (links w.directories) l → l.part.pair ≡ root → l.part.dirty ≡ false
      → (w.attributes ≡ v.attributes) × (new ≡ old)

-- the law: where an outline is written so, the volume is
abbrev pub OutlinesAreWritten : Type 0
OutlinesAreWritten = (d : Disk) (v w : Volume) (old new : List ℕ) (is_new : Pair → Bool) (base : List Change)
    (p : ChangeSet)
    → WritesOutline d v w old new is_new base p → Writes d (applied p d) v w old new

-- the law: then new pairs are filled
abbrev pub NewPairsAreFilled : Type 0
NewPairsAreFilled = (d : Disk) (v w : Volume) (old new : List ℕ) (base : List Change) (p : ChangeSet)
    → WritesOutline d v w old new (is_new_to v) base p → FillsNewPairs v w (applied p d)

-- the law: then pairs that were there are changed as their links are written
abbrev pub PairsAreChanged : Type 0
PairsAreChanged = (d : Disk) (v w : Volume) (old new : List ℕ) (base : List Change) (p : ChangeSet) (forced : Forced)
    → WritesOutline d v w old new (is_new_to v) base p
    → ChangesLinks d (is_new_to v) forced (links (outlined w).directories) p.changes → ChangesPairs forced v w d (applied p d)
