-- None so far.
use Rattle.std.specs.Prelude.{◌≡◌, None, replicate}
use Rattle.lfs_adopt.proofs.draft.no_blocks.Given as goal

abbrev pub invariant-loop-number : goal.invariant-loop-number
invariant-loop-number l = l.blocks.items ≡ replicate l._number None
