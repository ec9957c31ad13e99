use Rattle.std.proofs.Common.{◌≡◌, ◌+◌, ◌≤◌, length, vec_capacity, vec_len}
use Rattle.lfs_block.specs.Change.{IsRising}
use Rattle.lfs_journal.specs.Joined.{laid_over}
use Rattle.lfs_journal.proofs.laying.lay_over.Given as goal

-- those so far are laid over the first, and there is room for the others
abbrev pub invariant-loop-change : goal.invariant-loop-change
invariant-loop-change l = record {
  laid : l.records.items ≡ laid_over l.fn.records.items l.yielded;
  rising : IsRising l.records.items;
  room : vec_len l.records + vec_len l.fn.changes ≤ vec_capacity l.records + length l.yielded;
}
