-- The numbers of refusals (own).
use Rattle.std.specs.Prelude.{ℕ}
use Rattle.lfs_command.specs.declared.refusal.Refusal.{Refusal}
use Rattle.lfs_command.specs.declared.refusal.Refusal.TheVariants.{NotFound, Exists, NotADirectory, IsADirectory, NotEmpty, BadPath}
use Rattle.lfs_command.specs.declared.refusal.Refusal.TheVariants.{NameTooLong, FileTooLarge, AttrTooLarge, NoAttr, IntoItself, IsRoot}
use Rattle.lfs_command.specs.declared.refusal.Refusal.TheVariants.{EntryTooLarge, NoSpace, Memory, BadCount}

abbrev pub refusal_number : Refusal → ℕ
refusal_number NotFound = 30
refusal_number Exists = 31
refusal_number NotADirectory = 32
refusal_number IsADirectory = 33
refusal_number NotEmpty = 34
refusal_number BadPath = 35
refusal_number NameTooLong = 36
refusal_number FileTooLarge = 37
refusal_number AttrTooLarge = 38
refusal_number NoAttr = 39
refusal_number IntoItself = 40
refusal_number IsRoot = 41
refusal_number EntryTooLarge = 42
refusal_number (NoSpace needed free) = 43
refusal_number Memory = 44
refusal_number BadCount = 46
