-- What an edit of an outline asks for (own).
use Rattle.std.specs.Prelude.{◌≡◌, ◌≤◌, List, None, All, count_by}
use Rattle.lfs_meta.specs.Body.{Pair}
use Rattle.lfs_meta.specs.Name.{Name}
use Rattle.lfs_fs.specs.Directory.{Directory, begins_at, entries}
use Rattle.lfs_fs.specs.Entry.{is_named}
use Rattle.lfs_fs.specs.Volume.{Volume}
use Rattle.lfs_fs.specs.Sound.{IsSound, Rise}
use Rattle.lfs_fs.specs.Superblock.{IsLimits}
use Rattle.lfs_command.specs.Command.{Command, HasNames}
use Rattle.lfs_command.specs.Verdict.{checks, first_refusal}

-- no two directories begin at one pair
abbrev pub BeginOnce : List Directory → Type 0
BeginOnce ds = (k : Pair) → count_by (begins_at k) ds ≤ 1

-- no two entries of a directory have one name
abbrev pub NamedOnce : List Directory → Type 0
NamedOnce ds = (n : Name) → All (λ d. count_by (is_named n) (entries d) ≤ 1) ds

-- the names of each directory rise
abbrev pub NamesRise : List Directory → Type 0
NamesRise ds = All (λ d. Rise (entries d)) ds

-- a sound outline within the format's limits, on which no check refuses the command
pub record IsEditable (o : Volume) (c : Command) : Type 0 where
  pub sound : IsSound o
  pub limits : IsLimits o.limits
  pub names : HasNames c
  pub unrefused : first_refusal (checks o c) ≡ None
  pub begins : BeginOnce o.directories
  pub named : NamedOnce o.directories
