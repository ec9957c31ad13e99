use Rattle.std.proofs.Common.{◌≡◌, ◌+◌, ◌-◌, vec_len}
use Rattle.lfs_meta.specs.Replay.{up_to}
use Rattle.lfs_meta.proofs.part_draft.grow.Given as goal

-- the entries so far are filled up to the same
abbrev pub invariant-grow : goal.invariant-grow
invariant-grow l = up_to l.fn.id l.entries.items ≡ up_to l.fn.id l.initial.entries.items

abbrev pub decreases-grow : goal.decreases-grow
decreases-grow l = l.fn.id + 1 - vec_len l.entries
