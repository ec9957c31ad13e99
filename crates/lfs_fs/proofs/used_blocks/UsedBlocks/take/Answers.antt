-- Nothing refuses blocks that can be marked.
use Rattle.std.proofs.Common.{Bool, List, subst, sym, ◌∙◌}
use Rattle.lfs_fs.specs.Used.{CanBeMarked}
use Rattle.lfs_fs.proofs.UsedLemmas.{none_taken}
use Rattle.lfs_fs.proofs.used_blocks.UsedBlocks.take.Goals as goal

pub unreachable-requires : goal.unreachable-requires
unreachable-requires c =
    none_taken c.in-Err.field-0 c.deref_mut.result.now c.args.blocks.now
    (subst (λ (used : List Bool). CanBeMarked used c.args.blocks.now) (sym (c.deref_mut.ensures.value ∙ c.self.view_is)) c.requires)
    c.in-Err.ensures.refused
