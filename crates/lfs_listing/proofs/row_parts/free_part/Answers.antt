use Rattle.std.proofs.Common.{None, ap, sym, ◌∙◌}
use Rattle.lfs_json.specs.declared.form.Form.{Form}
use Rattle.lfs_listing.specs.Using.{user_part}
use Rattle.lfs_json.proofs.BlockLemmas.{free_front_is}
use Rattle.lfs_listing.proofs.row_parts.free_part.Goals as goal

pub returns-in-Json : goal.returns-in-Json
returns-in-Json c = free_front_is ∙ ap (λ (f : Form). user_part f None) (sym c.in-Json.is)
