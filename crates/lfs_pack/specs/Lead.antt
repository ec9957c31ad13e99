-- Where accepted commands lead to (own).
use Rattle.std.specs.Prelude.{◌≡◌, List, [], ◌∷◌}
use Rattle.lfs_fs.specs.Volume.{Volume}
use Rattle.lfs_command.specs.Command.{Command}
use Rattle.lfs_command.specs.Planned.{CarriesOut}

-- accepted commands lead from one volume to another
abbrev pub Lead : List Command → Volume → Volume → Type 0
Lead [] v w = w ≡ v
Lead (c ∷ cs) v w = (u : Volume) × CarriesOut c v u × Lead cs u w
