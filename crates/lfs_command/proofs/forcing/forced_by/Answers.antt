use Rattle.std.proofs.Common.{Bor, List, ap, map, sym, ◌∙◌}
use Rattle.lfs_meta.specs.Name.{Name}
use Rattle.lfs_pair.specs.Difference.{Struct}
use Rattle.lfs_command.specs.AskedFor.{OnNames, named_command}
use Rattle.lfs_command.specs.Parent.{last_name}
use Rattle.lfs_command.specs.PairChanged.{forced_by}
use Rattle.lfs_command.proofs.forcing.forced_by.Goals as goal

pub returns-in-Put : goal.returns-in-Put
returns-in-Put c =
    ap Struct (c.last_of.ensures ∙ ap (λ (path : List (Bor Name)). last_name (map (λ n. n.now) path)) c.deref.ensures.value)
    ∙ ap (λ (command : OnNames). forced_by (named_command command)) (sym c.in-Put.is)
