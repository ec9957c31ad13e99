-- Those below this one.
use Rattle.std.proofs.Common.{◌≡◌}
use Rattle.std.specs.List.{filter, range_with_len}
use Rattle.lfs_adopt.specs.Changed.{is_changed}
use Rattle.lfs_adopt.specs.Draft.{drafted}
use Rattle.lfs_adopt.proofs.draft.Draft.changed.Given as goal

abbrev pub invariant-loop-number : goal.invariant-loop-number
invariant-loop-number l = l.changed.items ≡ filter (is_changed l.self.base (drafted l.self)) (range_with_len 0 l.number)
