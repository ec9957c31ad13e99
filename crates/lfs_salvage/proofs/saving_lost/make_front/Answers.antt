-- The folders that lack are made, or the host refuses one.
use Rattle.std.proofs.Common.{Option, List, [], ◌∷◌, ℕ}
use Rattle.std.proofs.lemmas.Result.{err_from_is_err_and}
use Rattle.lfs_extract.specs.declared.extract_fault.ExtractFault.TheVariants.{CannotWrite}
use Rattle.lfs_host.specs.NewFolder.{FolderMade, Made}
use Rattle.lfs_salvage.specs.Below.{HasRefusedBelow}
use Rattle.lfs_salvage.proofs.LostLemmas.{front_refused}
use Rattle.lfs_salvage.proofs.SavingLemmas.{below_then, blames, none_front, one_below, then_stops}
use Rattle.lfs_salvage.proofs.WordLemmas.{below_itself}
use Rattle.lfs_salvage.proofs.saving_lost.make_front.Goals as goal

pub returns-in_err-make_folder-in-Both-clause-made : goal.returns-in_err-make_folder-in-Both-clause-made
returns-in_err-make_folder-in-Both-clause-made g c =
    let p = err_from_is_err_and c.from_residual.result c.from_residual.ensures.1 in
    rw (p.1, p.2, c.in-Both.is) (front_refused (g.F.Known.known c.args.folder.now).made (g.F.Known.known c.make_folder.new.self).made
    (FolderMade c.args.dir.now) (FolderMade c.args.lost.now ∷ []) c.in_err-make_folder-in-Both.ensures.made)

pub returns-in_err-make_folder-in-Both-2-clause-made : goal.returns-in_err-make_folder-in-Both-2-clause-made
returns-in_err-make_folder-in-Both-2-clause-made g c =
    let old : Option (List Made) = (g.F.Known.known c.args.folder.now).made in
    let mid : Option (List Made) = (g.F.Known.known c.make_folder.new.self).made in
    let new : Option (List Made) = (g.F.Known.known c.make_folder-in-Both.new.self).made in
    let p = err_from_is_err_and c.from_residual-in_err-make_folder-in-Both-2.result c.from_residual-in_err-make_folder-in-Both-2.ensures.1 in
    rw (p.1, p.2, c.in-Both.is) (then_stops CannotWrite old mid new (FolderMade c.args.dir.now ∷ []) (FolderMade c.args.lost.now ∷ [])
    c.in_ok-make_folder-in-Both.ensures.made
    (none_front mid new (FolderMade c.args.lost.now) c.in_err-make_folder-in-Both-2.ensures.made))

pub returns-in_err-make_folder-in-Lost-clause-made : goal.returns-in_err-make_folder-in-Lost-clause-made
returns-in_err-make_folder-in-Lost-clause-made g c =
    let p = err_from_is_err_and c.from_residual-in_err-make_folder-in-Lost.result c.from_residual-in_err-make_folder-in-Lost.ensures.1 in
    rw (p.1, p.2, c.in-Lost.is) (none_front (g.F.Known.known c.args.folder.now).made (g.F.Known.known c.make_folder-in-Lost.new.self).made
    (FolderMade c.args.lost.now) c.in_err-make_folder-in-Lost.ensures.made)

pub returns-in_ok-make_folder-in-Both-2-clause-below : goal.returns-in_ok-make_folder-in-Both-2-clause-below
returns-in_ok-make_folder-in-Both-2-clause-below g c =
    let dir : List ℕ = c.args.dir.now in
    let old : Option (List Made) = (g.F.Known.known c.args.folder.now).made in
    let mid : Option (List Made) = (g.F.Known.known c.make_folder.new.self).made in
    let new : Option (List Made) = (g.F.Known.known c.make_folder-in-Both.new.self).made in
    below_then dir old mid new (one_below dir old mid (FolderMade dir) (below_itself dir) c.in_ok-make_folder-in-Both.ensures.made)
    (one_below dir mid new (FolderMade c.args.lost.now) c.requires c.in_ok-make_folder-in-Both-2.ensures.made)

pub returns-in_err-make_folder-in-Both-clause-blamed : goal.returns-in_err-make_folder-in-Both-clause-blamed
returns-in_err-make_folder-in-Both-clause-blamed g c =
    let dir : List ℕ = c.args.dir.now in
    blames {P = HasRefusedBelow (g.F.Known.known c.make_folder.new.self) dir} c.from_residual.result
    (FolderMade dir, below_itself dir, c.in_err-make_folder-in-Both.ensures.noted.0)

pub returns-in_err-make_folder-in-Both-2-clause-blamed : goal.returns-in_err-make_folder-in-Both-2-clause-blamed
returns-in_err-make_folder-in-Both-2-clause-blamed g c =
    blames {P = HasRefusedBelow (g.F.Known.known c.make_folder-in-Both.new.self) c.args.dir.now}
    c.from_residual-in_err-make_folder-in-Both-2.result (FolderMade c.args.lost.now, c.requires, c.in_err-make_folder-in-Both-2.ensures.noted.0)

pub returns-in_err-make_folder-in-Lost-clause-blamed : goal.returns-in_err-make_folder-in-Lost-clause-blamed
returns-in_err-make_folder-in-Lost-clause-blamed g c =
    blames {P = HasRefusedBelow (g.F.Known.known c.make_folder-in-Lost.new.self) c.args.dir.now}
    c.from_residual-in_err-make_folder-in-Lost.result (FolderMade c.args.lost.now, c.requires, c.in_err-make_folder-in-Lost.ensures.noted.0)
