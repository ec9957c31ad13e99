-- An outline whose parts are cut (own).
use Rattle.std.specs.Prelude.{◌≡◌, List}
use Rattle.lfs_meta.specs.Body.{Pair}
use Rattle.lfs_fs.specs.Directory.{Part}
use Rattle.lfs_fs.specs.Outlined.{outlined, outlined_part}
use Rattle.lfs_fs.specs.Volume.{Volume}
use Rattle.lfs_command.specs.Cut.{cut}

-- pairs chosen for the parts of an outline, for those of the volume
abbrev pub for_parts : (Part → List Pair) → Part → List Pair
for_parts chosen p = chosen (outlined_part p)

-- the law: the outline of the cut volume is the cut outline, where the same pairs are chosen
abbrev pub CutsOutline : Type 0
CutsOutline = (chosen : Part → List Pair) (v : Volume) → outlined (cut (for_parts chosen) v) ≡ cut chosen (outlined v)
