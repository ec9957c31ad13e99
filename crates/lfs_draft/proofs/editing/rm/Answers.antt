-- The outline keeps to what a removal asks for.
use Rattle.std.proofs.Common.{subst, sym}
use Rattle.lfs_fs.specs.Volume.{Volume}
use Rattle.lfs_draft.specs.Editable.{BeginOnce, NamedOnce}
use Rattle.lfs_draft.proofs.editing.rm.Goals as goal

pub remove-requires-clause-once : goal.remove-requires-clause-once
remove-requires-clause-once c = subst (λ (v : Volume). BeginOnce v.directories) (sym c.outline.view_is) c.requires.begins

pub remove-requires-clause-named : goal.remove-requires-clause-named
remove-requires-clause-named c = subst (λ (v : Volume). NamedOnce v.directories) (sym c.outline.view_is) c.requires.named
