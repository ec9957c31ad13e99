use Rattle.lfs_history.proofs.EquationLemmas.{equations}
use Rattle.lfs_history.proofs.laws.commands_are_equations.Goals as goal

pub returns : goal.returns
returns c = let follow = c.cuts_follow.ensures in equations c.images_mount_to_one_tree.ensures.volume
    (record { cut = follow.cut; clean = follow.clean })
