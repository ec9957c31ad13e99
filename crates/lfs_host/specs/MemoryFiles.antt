-- Files in memory (own).
use Rattle.std.specs.Prelude.{ℕ, String}
use Rattle.std.specs.BTreeMap.{BTreeMap, get_by_text}
use Rattle.std.specs.Global.{Vec}
use Rattle.std.specs.Option.{option_map}
use Rattle.lfs_host.specs.Files.{Files}

-- the files that a map holds by their names
abbrev pub files_of : {Y : Type 0} → BTreeMap (String Y) (Vec ℕ) → Files
files_of map name = option_map (λ bytes. bytes.items) (get_by_text map name)
