use Rattle.lfs_change.proofs.TogetherLemmas.{bytes_changed_together, bytes_grow_by_the_needs, one_undo_takes_back}
use Rattle.lfs_change.proofs.laws.bytes_are_changed_together.Goals as goal

pub returns-clause-equations : goal.returns-clause-equations
returns-clause-equations c = bytes_changed_together c.changed_bytes_are_denoted.ensures c.commands_push_equations_together.ensures

pub returns-clause-undone : goal.returns-clause-undone
returns-clause-undone c =
    one_undo_takes_back c.changed_bytes_are_denoted.ensures c.saved_histories_open.ensures.one c.undo_is_exact.ensures.together

pub returns-clause-growth : goal.returns-clause-growth
returns-clause-growth c = bytes_grow_by_the_needs c.journals_grow_by_the_need.ensures.together
