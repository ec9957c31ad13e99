use Rattle.std.proofs.Common.{ℕ, List, ap, ◌∙◌}
use Rattle.lfs_write.proofs.writing.change_of.Goals as goal

pub returns-clause-change : goal.returns-clause-change
returns-clause-change g c =
    ap (λ (old : List ℕ). record { number = c.args.number; old = old; new = c.args.new.items }) (c.in_ok-old.ensures.items ∙ c.block.ensures)
