-- The entries made complete stand beside what the tags left.
use Rattle.std.proofs.Common.{◌≡◌, List, Some, option_map, option_and_then, ap, sym, ◌∙◌}
use Rattle.lfs_meta.specs.Entry.{StoredEntry}
use Rattle.lfs_meta.specs.Part.{RawPart, StoredPart}
use Rattle.lfs_meta.specs.Complete.{all_complete, complete_part}
use Rattle.lfs_meta.proofs.read.read_pair.Goals as goal

abbrev with_entries : RawPart → List StoredEntry → StoredPart
with_entries p es = record { entries = es; tail = p.tail; delta = p.delta }

made_complete : (p : RawPart) (es : List StoredEntry) → all_complete p.entries ≡ Some es → complete_part p ≡ Some (with_entries p es)
made_complete p es e = ap (option_map (with_entries p)) e

pub returns-clause-found : goal.returns-clause-found
returns-clause-found g c =
    let draft = c.draft.inside in
    ap (option_and_then complete_part) (c.in_ok-draft.ensures.found ∙ ap (λ (p : RawPart). Some p) (sym c.draft.view_is))
    ∙ made_complete (record { entries = draft.entries.items; tail = draft.tail; delta = draft.delta }) c.in_ok-entries.entries.items
    (ap all_complete (sym c.deref.ensures.value) ∙ c.in_ok-entries.ensures.found)
