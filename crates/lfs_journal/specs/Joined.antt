-- Changes of an image that are made one after another, as one change (own).
use Rattle.std.specs.Prelude.{◌==◌, List, [], ◌∷◌, if◌then◌else◌, nat_lt}
use Rattle.lfs_block.specs.Change.{Change}
use Rattle.lfs_block.specs.Disk.{Disk}
use Rattle.lfs_block.specs.Patch.{ChangeSet, IsGrowth, AgreesOld, AgreesNew, applied, reverted}

-- two changes of one block as one: what it held before the first, and what it holds after the second
abbrev pub joined : Change → Change → Change
joined c d = record { number = c.number; old = c.old; new = d.new }

-- one more change behind changes whose numbers rise
abbrev pub laid : List Change → Change → List Change
laid [] d = d ∷ []
laid (c ∷ cs) d =
    if c.number == d.number then joined c d ∷ cs else (if nat_lt d.number c.number then d ∷ c ∷ cs else c ∷ laid cs d)

-- several more, one after another
abbrev pub laid_over : List Change → List Change → List Change
laid_over cs [] = cs
laid_over cs (d ∷ ds) = laid_over (laid cs d) ds

-- Two patches as one. A block's old bytes are those of the first patch that names it, its new ones those of the last; the image has as
-- many blocks before as before the first, and as many after as after the second.
abbrev pub composed : ChangeSet → ChangeSet → ChangeSet
composed p q = record { size = p.size; before = p.before; after = q.after; changes = laid_over p.changes q.changes }

-- a patch and those behind it as one
abbrev pub together : ChangeSet → List ChangeSet → ChangeSet
together p [] = p
together p (q ∷ qs) = together (composed p q) qs

-- the image after patches, the first of them first
abbrev pub applied_all : List ChangeSet → Disk → Disk
applied_all [] d = d
applied_all (p ∷ ps) d = applied_all ps (applied p d)

-- each patch can be made in the image that those before it make
abbrev pub FollowOn : List ChangeSet → Disk → Type 0
FollowOn [] d = Unit {0}
FollowOn (p ∷ ps) d = IsGrowth p × AgreesOld p d × FollowOn ps (applied p d)

-- the image before patches, of which the last is taken back first
abbrev pub reverted_all : List ChangeSet → Disk → Disk
reverted_all [] d = d
reverted_all (p ∷ ps) d = reverted p (reverted_all ps d)

-- each patch can be taken back from the image that is left once those behind it are
abbrev pub LeadBack : List ChangeSet → Disk → Type 0
LeadBack [] d = Unit {0}
LeadBack (p ∷ ps) d = LeadBack ps d × IsGrowth p × AgreesNew p (reverted_all ps d)
