-- The folder is made, or the host refuses it.
use Rattle.std.proofs.lemmas.Result.{err_from_is_err_and}
use Rattle.lfs_host.specs.NewFolder.{FolderMade}
use Rattle.lfs_salvage.specs.Below.{HasRefusedBelow}
use Rattle.lfs_salvage.proofs.SavingLemmas.{blames, none_front}
use Rattle.lfs_salvage.proofs.folders.make_base.Goals as goal

pub returns-in_err-make_folder-clause-made : goal.returns-in_err-make_folder-clause-made
returns-in_err-make_folder-clause-made g c =
    let p = err_from_is_err_and c.from_residual-in_err-make_folder.result c.from_residual-in_err-make_folder.ensures.1 in
    rw (p.1, p.2) (none_front (g.F.Known.known c.args.folder.now).made (g.F.Known.known c.make_folder.new.self).made (FolderMade c.args.base.now)
    c.in_err-make_folder.ensures.made)

pub returns-in_err-make_folder-clause-blamed : goal.returns-in_err-make_folder-clause-blamed
returns-in_err-make_folder-clause-blamed g c = λ top above.
    blames {P = HasRefusedBelow (g.F.Known.known c.make_folder.new.self) top} c.from_residual-in_err-make_folder.result
    (FolderMade c.args.base.now, above, c.in_err-make_folder.ensures.noted.0)
