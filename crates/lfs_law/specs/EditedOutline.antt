-- What a command does to an outline (own).
use Rattle.std.specs.Prelude.{◌≡◌}
use Rattle.lfs_fs.specs.Outlined.{outlined, outlined_body}
use Rattle.lfs_fs.specs.Volume.{Volume}
use Rattle.lfs_fs.specs.Tree.{entry_at}
use Rattle.lfs_command.specs.Command.{Command, Put}
use Rattle.lfs_command.specs.Supplies.{Supplies, new_body}
use Rattle.lfs_command.specs.Parent.{parent_of}
use Rattle.lfs_command.specs.Edited.{edited, put_file}

-- the same as to a volume, less the contents of a new chain
abbrev pub edited_outline : Volume → Command → Supplies → Volume
edited_outline v (Put p bytes most) s = put_file v (outlined_body (new_body v s bytes most)) (parent_of v p) (entry_at v p)
edited_outline v c s = edited v c s

-- the law: the outline of the edited volume is the edited outline
abbrev pub OutlinesFollow : Type 0
OutlinesFollow = (v : Volume) (c : Command) (s : Supplies) → outlined (edited v c s) ≡ edited_outline (outlined v) c s
