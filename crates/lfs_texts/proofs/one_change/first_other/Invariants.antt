-- The lines so far are commands.
use Rattle.std.proofs.Common.{◌≡◌, drop}
use Rattle.lfs_texts.specs.OneChange.{first_other}
use Rattle.lfs_texts.proofs.one_change.first_other.Given as goal

abbrev pub invariant-each : goal.invariant-each
invariant-each l = first_other (drop l.line-index l.lines) ≡ first_other l.lines
