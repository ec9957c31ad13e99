-- The pairs of the entries, and then the tail's.
use Rattle.std.proofs.Common.{◌++◌, List, ap, sym, ◌∙◌}
use Rattle.lfs_meta.specs.Body.{Pair}
use Rattle.lfs_meta.specs.Entry.{StoredEntry}
use Rattle.lfs_meta.specs.Part.{StoredPart}
use Rattle.lfs_survey.specs.Calls.{entries_call, found_calls}
use Rattle.lfs_survey.specs.declared.found.Found.TheVariants.{Part}
use Rattle.lfs_survey.proofs.CallingLemmas.{called_all}
use Rattle.lfs_survey.proofs.calling.call_all.Goals as goal

pub returns : goal.returns
returns c =
    called_all c.call_tail.result c.args.from c.args.calls.now.items c.call_entries.new.calls.items c.call_tail.new.calls.items
    c.args.found.now c.part.inside.entries.items c.part.inside.tail
    (ap (found_calls c.args.from) c.in-Part.is ∙ ap (λ (p : Pair × StoredPart). found_calls c.args.from (Part p)) (sym c.part.view_is))
    (c.in_ok-call_entries.ensures
    ∙ ap (λ (es : List StoredEntry). c.args.calls.now.items ++ entries_call c.args.from 0 es) c.deref.ensures.value)
    c.call_tail.ensures
