-- What is saved opens as it was.
use Rattle.lfs_history.proofs.SavedLemmas.{one_history, saved_opens, saved_taken}
use Rattle.lfs_history.proofs.laws.saved_histories_open.Goals as goal

pub returns-clause-one : goal.returns-clause-one
returns-clause-one c = one_history c.books_are_read_once.ensures

pub returns-clause-opens : goal.returns-clause-opens
returns-clause-opens c = saved_opens

pub returns-clause-taken : goal.returns-clause-taken
returns-clause-taken c =
    let made = c.applied_patches_change_their_blocks.ensures in
    let back = c.applied_patches_revert.ensures in
    let again = c.reverted_patches_apply_again.ensures in
    saved_taken c.books_are_read_once.ensures c.mounted_images_have_no_cause.ensures
    (record { disk = again.disk; agrees = again.agrees; again = again.again })
    (record { disk = made.disk; agrees = back.agrees; back = back.back })
