-- Commands that are carried out on an image, one after another, as one patch (own).
use Rattle.std.specs.Prelude.{◌≡◌, List, [], Option, Some, None}
use Rattle.lfs_block.specs.Disk.{Disk, IsDisk}
use Rattle.lfs_block.specs.Patch.{ChangeSet, IsGrowth, AgreesOld, AgreesNew, applied, reverted}
use Rattle.lfs_journal.specs.Joined.{composed}
use Rattle.lfs_command.specs.Command.{Asked}
use Rattle.lfs_command.specs.Planned.{Plans}
use Rattle.lfs_history.specs.Together.{PlansTogether}

-- a patch with those before it, if there are any, as one
abbrev pub joined_with : Option ChangeSet → ChangeSet → ChangeSet
joined_with None q = q
joined_with (Some p) q = composed p q

-- both are a patch
abbrev pub MayJoin : Option ChangeSet → ChangeSet → Type 0
MayJoin None q = Unit {0}
MayJoin (Some p) q = IsGrowth (composed p q)

-- patches that are one, if there are any, lead from some image to this one
abbrev pub IsBehind : Option ChangeSet → Disk → Type 0
IsBehind None e = Unit {0}
IsBehind (Some p) e = (d : Disk) × IsDisk d × IsGrowth p × AgreesOld p d × (e ≡ applied p d)

-- they can be taken back from it
abbrev pub MayTakeBack : Option ChangeSet → Disk → Type 0
MayTakeBack None e = Unit {0}
MayTakeBack (Some p) e = AgreesNew p e

-- the image before them
abbrev pub taken_back : Option ChangeSet → Disk → Disk
taken_back None e = e
taken_back (Some p) e = reverted p e

-- one command more is carried out on an image, and its patch is one with those before it
pub record CarriesOneMore (d : Disk) (before : Option ChangeSet) (asked : Asked) (after : Option ChangeSet) (e : Disk) : Type 0 where
  pub change : ChangeSet
  pub plans : Plans d asked change
  pub joint : after ≡ Some (joined_with before change)
  pub image : e ≡ applied change d

-- commands are carried out together by a patch, or there is neither
abbrev pub AreJoined : Disk → List Asked → Option ChangeSet → Disk → Type 0
AreJoined d asked None e = (asked ≡ []) × (e ≡ d)
AreJoined d asked (Some p) e = PlansTogether d asked p × (e ≡ applied p d)
