use Rattle.lfs_change.proofs.LawLemmas.{bytes_stand_again}
use Rattle.lfs_change.proofs.laws.undone_bytes_stand_again.Goals as goal

pub returns : goal.returns
returns c =
    let exact = c.undo_is_exact.ensures in
    bytes_stand_again c.changed_bytes_are_denoted.ensures c.saved_histories_open.ensures.one exact.all exact.kept
