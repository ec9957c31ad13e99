-- Outlines of sound volumes (own).
use Rattle.lfs_fs.specs.Volume.{Volume}
use Rattle.lfs_fs.specs.Sound.{IsSound}
use Rattle.lfs_fs.specs.Outlined.{outlined}

-- the law: they are sound
abbrev pub OutlinesAreSound : Type 0
OutlinesAreSound = (v : Volume) → IsSound v → IsSound (outlined v)
