-- The blocks of the thread's pairs have their flags set.
use Rattle.std.proofs.Common.{◌∙◌}
use Rattle.lfs_fs.specs.Reading.{reading_of}
use Rattle.lfs_adopt.proofs.Flags.{thread_within}
use Rattle.lfs_adopt.proofs.thread.thread_table.Goals as goal

pub flag_pairs-requires-clause-within : goal.flag_pairs-requires-clause-within
flag_pairs-requires-clause-within g c =
    thread_within (reading_of (g.B.Blocks.disk c.args.blocks.now)) c.deref.result.now _
    (c.deref.ensures.value ∙ c.in_ok-thread.ensures.pairs)
    (c.deref_mut.ensures.len ∙ c.in_ok-flags.ensures.len ∙ c.count.ensures)
