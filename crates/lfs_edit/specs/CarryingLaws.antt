-- The laws that carrying a command out stands on (own).
use Rattle.lfs_block.specs.PatchLaws.{GrownIsKept, ResizedIsDisk}
use Rattle.lfs_fs.specs.Stored.{HeldAreHeldByLinks}
use Rattle.lfs_law.specs.CountsGrow.{CountsGrow}
use Rattle.lfs_law.specs.CutWritten.{HeldBytesAreMade, MadeBytesSay}
use Rattle.lfs_law.specs.Lengthened.{LengthenedImagesHold}
use Rattle.lfs_law.specs.EditedOutline.{OutlinesFollow}
use Rattle.lfs_law.specs.JudgedAlike.{OutlinesAreJudgedAlike}
use Rattle.lfs_law.specs.Laws.{CleansFollow, CommandsFollow, CutsFollow, FewPartsChange, FreeAfterHeld}
use Rattle.lfs_law.specs.OutlineCarried.{LargeIsTheSame, OutlinesAreCarried}
use Rattle.lfs_law.specs.OutlineLaws.{NewPairsAreFilled, PairsAreChanged}
use Rattle.lfs_law.specs.PlansHold.{LeastAreFree, PlansAreFrugal, PlansHold, TablesTellChanged, TablesTellNew}
use Rattle.lfs_law.specs.Written.{HeldAreClean}
use Rattle.lfs_law.specs.PlansWritten.{CommandsAreWritten, LaidAreThere}

pub record CarryingLaws : Type 0 where
  pub command : CommandsFollow
  pub few : FewPartsChange
  pub marks : HeldAreClean
  pub outlines : OutlinesFollow
  pub judged : OutlinesAreJudgedAlike
  pub carried : OutlinesAreCarried
  pub large : LargeIsTheSame
  pub least : LeastAreFree
  pub tell : TablesTellNew
  pub tell_changed : TablesTellChanged
  pub laid : LaidAreThere
  pub written : CommandsAreWritten
  pub hold : PlansHold
  pub filled : NewPairsAreFilled
  pub changed : PairsAreChanged
  pub frugal : PlansAreFrugal
  pub freed : FreeAfterHeld
  pub follow : CutsFollow
  pub clean : CleansFollow
  pub by_links : HeldAreHeldByLinks

-- those that the bytes of an image that is lengthened for a command stand on
pub record WritingLaws : Type 0 where
  pub made : HeldBytesAreMade
  pub say : MadeBytesSay
  pub long : LengthenedImagesHold
  pub grow : CountsGrow
  pub resized : ResizedIsDisk
  pub kept : GrownIsKept
