-- The laws that packing stands on (own).
use Rattle.lfs_fs.specs.Path.{TextsSpellOnePath}
use Rattle.lfs_fs.specs.Row.{PathsAreOrdered}
use Rattle.lfs_law.specs.Laws.{CleansFollow, CutsFollow, UsesAfter}
use Rattle.lfs_pack.specs.Laws.{LedToTheirMap}

pub record PackingLaws : Type 0 where
  pub map : LedToTheirMap
  pub texts : TextsSpellOnePath
  pub cuts : CutsFollow
  pub cleans : CleansFollow
  pub order : PathsAreOrdered
  pub after : UsesAfter
