use Rattle.lfs_history.proofs.TogetherLemmas.{one_by_one, together_equations}
use Rattle.lfs_history.proofs.laws.commands_are_made_together.Goals as goal

pub returns : goal.returns
returns c =
    let one = one_by_one c.composed_patches_apply.ensures.all in
    record { one_by_one = one; equations = together_equations one c.commands_are_equations.ensures }
