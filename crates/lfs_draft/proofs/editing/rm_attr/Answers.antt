-- The outline keeps to what a change of an entry asks for.
use Rattle.std.proofs.Common.{subst, sym}
use Rattle.std.proofs.lemmas.Result.{err_from_is_err_and}
use Rattle.lfs_fs.specs.Volume.{Volume}
use Rattle.lfs_draft.specs.Editable.{BeginOnce, NamedOnce}
use Rattle.lfs_draft.proofs.editing.rm_attr.Goals as goal

pub change-requires-clause-one : goal.change-requires-clause-one
change-requires-clause-one c = (subst (λ (v : Volume). BeginOnce v.directories) (sym c.outline.view_is) c.requires.begins)
    c.parent-parent.result.pair

pub change-requires-clause-once : goal.change-requires-clause-once
change-requires-clause-once c = (subst (λ (v : Volume). NamedOnce v.directories) (sym c.outline.view_is) c.requires.named)
    c.parent-parent.result.name.now

pub returns-in_err-change : goal.returns-in_err-change
returns-in_err-change c = rw (err_from_is_err_and c.from_residual.result c.from_residual.ensures.1).1 tt
