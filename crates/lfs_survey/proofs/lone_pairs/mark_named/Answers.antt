-- The blocks of the entries, and then the tail's.
use Rattle.std.proofs.Common.{◌≡◌, Bool, List, ap, sym, ◌∙◌}
use Rattle.lfs_meta.specs.Body.{Pair}
use Rattle.lfs_meta.specs.Entry.{StoredEntry}
use Rattle.lfs_meta.specs.Part.{StoredPart}
use Rattle.lfs_survey.specs.Lone.{entries_pairs, marked_by, part_pairs, tail_pairs}
use Rattle.lfs_survey.proofs.LoneLemmas.{marked_append}
use Rattle.lfs_survey.proofs.lone_pairs.mark_named.Goals as goal

pub returns : goal.returns
returns c =
    let tail = tail_pairs c.part.inside.tail in
    let first : c.mark_entries.new.table ≡ marked_by c.args.table.now (entries_pairs c.part.inside.entries.items) =
    c.mark_entries.ensures ∙ ap (λ (es : List StoredEntry). marked_by c.args.table.now (entries_pairs es)) c.deref.ensures.value in
    c.mark_tail.ensures ∙ ap (λ (t : List Bool). marked_by t tail) first
    ∙ sym (marked_append c.args.table.now (entries_pairs c.part.inside.entries.items) tail)
    ∙ ap (λ (p : Pair × StoredPart). marked_by c.args.table.now (part_pairs p.1)) c.part.view_is
