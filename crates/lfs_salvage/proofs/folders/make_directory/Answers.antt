-- The folder is made, or has no name, or the host refuses something else.
use Rattle.std.proofs.Common.{List, ℕ, Some}
use Rattle.std.proofs.lemmas.Result.{err_from_is_err_and}
use Rattle.lfs_host.specs.NewFolder.{FolderMade}
use Rattle.lfs_salvage.specs.Folder.{folder_in}
use Rattle.lfs_salvage.specs.declared.wording.Wording.TheVariants.{Own}
use Rattle.lfs_salvage.proofs.SavingLemmas.{nothing_stops}
use Rattle.lfs_salvage.proofs.folders.make_directory.Goals as goal

pub returns-in_err-name-clause-made : goal.returns-in_err-name-clause-made
returns-in_err-name-clause-made g c =
    let name : List ℕ = folder_in c.args.above.now c.args.found.now c.args.from c.args.index (Some Own) in
    let p = err_from_is_err_and c.from_residual-in_err-name.result c.from_residual-in_err-name.ensures.1 in
    let stop =
    nothing_stops c.in_err-name.field-0.0 (g.F.Known.known c.args.folder.now).made (g.F.Known.known c.make_first.new.folder).made
    (FolderMade name) c.in_err-name.ensures.stopped.0 c.in_err-name.ensures.stopped.1 in
    rw (p.1, p.2) (Some Own, tt, stop)

pub returns-in-Some-clause-named : goal.returns-in-Some-clause-named
returns-in-Some-clause-named g c = λ top above. rw c.in-Some.is at c.in_ok-name.ensures.named top above
