-- The pairs of the thread as it is, and those that the entries along it name.
use Rattle.std.proofs.Common.{List, ap, ◌∙◌}
use Rattle.lfs_meta.specs.Body.{Pair}
use Rattle.lfs_fs.specs.Reading.{Reading}
use Rattle.lfs_lower.specs.LaterReading.{later_reading_of}
use Rattle.lfs_settle.specs.InStep.{pairs_named, stepping, thread_pairs, thread_parts}
use Rattle.lfs_settle.proofs.ThreadParts.{unstepped, unstepped_pairs}
use Rattle.lfs_settle.proofs.planning.as_it_stands.Goals as goal

pub returns-clause-pairs : goal.returns-clause-pairs
returns-clause-pairs g c =
    let r : Reading = later_reading_of (g.B.Blocks.disk c.args.blocks.now) in
    c.in_ok-thread.ensures.pairs
    ∙ ap (λ (named : List Pair). thread_pairs (stepping named r)) (c.in_ok-none.ensures ∙ c.new.ensures.items)
    ∙ unstepped_pairs r

pub returns-clause-steps : goal.returns-clause-steps
returns-clause-steps g c =
    let r : Reading = later_reading_of (g.B.Blocks.disk c.args.blocks.now) in
    c.in_ok-steps.ensures
    ∙ c.in_ok-named.ensures
    ∙ ap pairs_named (c.deref.ensures.value ∙ c.in_ok-thread.ensures.parts
    ∙ ap (λ (named : List Pair). thread_parts (stepping named r)) (c.in_ok-none.ensures ∙ c.new.ensures.items)
    ∙ unstepped r)
