use Rattle.std.proofs.Common.{Bool, List, length, sym, ◌∙◌, ap}
use Rattle.lfs_fs.specs.Unused.{unused}
use Rattle.lfs_fs.proofs.UnusedLemmas.{length_unused}
use Rattle.lfs_fs.proofs.used_blocks.UsedBlocks.free_count.Goals as goal

pub returns : goal.returns
returns c =
    c.self.invariant.free ∙ sym (length_unused 0 c.self.inside.flags.items)
    ∙ ap (λ (flags : List Bool). length (unused flags)) c.self.view_is
