-- The last name.
use Rattle.std.proofs.Common.{◌∙◌, ap, Bor}
use Rattle.std.specs.Option.{option_map}
use Rattle.lfs_meta.specs.Name.{Name}
use Rattle.lfs_command.proofs.LastNames.{last_is}
use Rattle.lfs_command.proofs.paths.last_of.Goals as goal

pub returns : goal.returns
returns c = ap (option_map (λ (n : Bor Name). n.now)) (c.copied.ensures ∙ c.last.ensures.value) ∙ last_is c.args.names.now
