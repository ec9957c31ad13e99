use Rattle.std.proofs.Common.{subst}
use Rattle.std.specs.List.{AllByRecursion}
use Rattle.std.proofs.lemmas.List.{take-append-drop}
use Rattle.lfs_journal.specs.Book.{IsPatchOf}
use Rattle.lfs_journal.proofs.Patches.{patches_few}
use Rattle.lfs_journal.proofs.writing.send_journal.Goals as goal

pub send_few-requires-clause-few : goal.send_few-requires-clause-few
send_few-requires-clause-few g c =
    let patches = c.args.patches.now in
    patches_few c.args.size patches
    (subst (AllByRecursion (IsPatchOf c.args.size)) (take-append-drop c.args.done patches) c.requires.book.book.each)
