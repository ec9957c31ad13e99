-- What the later change holds before is dropped.
use Rattle.std.proofs.Common.{ap, ◌∙◌}
use Rattle.lfs_block.specs.Change.{Change}
use Rattle.lfs_journal.specs.Joined.{joined}
use Rattle.lfs_journal.proofs.laying.join.Goals as goal

pub returns : goal.returns
returns c =
    ap (λ (e : Change). record { number = c.record.inside.number; old = c.record.inside.old.items; new = e.new }) c.later.view_is
    ∙ ap (λ (e : Change). joined e c.args.later) c.record.view_is
