-- What the last name names in the directory where it belongs.
use Rattle.std.proofs.Common.{◌≡◌, List, map, ap, sym, ◌∙◌, Bor}
use Rattle.std.proofs.lemmas.Result.{err_from_is_err_and}
use Rattle.lfs_meta.specs.Name.{Name}
use Rattle.lfs_fs.specs.Directory.{Directory}
use Rattle.lfs_fs.specs.Tree.{entry_in}
use Rattle.lfs_fs.specs.Volume.{Volume}
use Rattle.lfs_law.proofs.EntriesThere.{stands_at_parent}
use Rattle.lfs_draft.proofs.standing.entry_at.Goals as goal

pub returns-clause-at : goal.returns-clause-at
returns-clause-at c =
    let same : c.deref.result.now ≡ c.args.outline.now.directories = c.deref.ensures.value
    ∙ ap (λ (v : Volume). v.directories) c.outline.view_is in
    c.entry_in.ensures
    ∙ ap (λ (ds : List Directory). entry_in ds c.in_ok-parent.parent.pair c.in_ok-parent.parent.name.now) same
    ∙ sym (stands_at_parent c.args.outline.now (map (λ (n : Bor Name). n.now) c.args.names.now) c.in_ok-parent.parent.pair
    c.in_ok-parent.parent.name.now c.in_ok-parent.ensures.parent)

pub returns-in_err-parent-clause-at : goal.returns-in_err-parent-clause-at
returns-in_err-parent-clause-at c = rw (err_from_is_err_and c.from_residual.result c.from_residual.ensures.1).1 tt

pub returns-in_err-parent-clause-unrefused : goal.returns-in_err-parent-clause-unrefused
returns-in_err-parent-clause-unrefused c = rw (err_from_is_err_and c.from_residual.result c.from_residual.ensures.1).1 tt

pub returns-in_err-parent-clause-refused : goal.returns-in_err-parent-clause-refused
returns-in_err-parent-clause-refused c =
    let p = err_from_is_err_and c.from_residual.result c.from_residual.ensures.1 in
    rw (p.1, p.2) c.in_err-parent.ensures.refused
