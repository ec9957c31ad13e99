use Rattle.std.proofs.Common.{List, length, ◌-◌, ap, ◌∙◌}
use Rattle.std.specs.Prelude.{slice_get}
use Rattle.lfs_meta.specs.Entry.{StoredEntry}
use Rattle.lfs_survey.proofs.order_place.last_entry.Goals as goal

pub returns : goal.returns
returns c = c.last.ensures.value ∙ ap (λ (es : List StoredEntry). slice_get es (length es - 1)) c.found_entries.ensures
