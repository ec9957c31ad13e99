-- The outline keeps to what a new directory asks for.
use Rattle.std.proofs.Common.{subst, sym}
use Rattle.lfs_fs.specs.Volume.{Volume}
use Rattle.lfs_draft.specs.Editable.{BeginOnce}
use Rattle.lfs_draft.proofs.editing.mkdir.Goals as goal

pub make_directory-requires-clause-once : goal.make_directory-requires-clause-once
make_directory-requires-clause-once c = subst (λ (v : Volume). BeginOnce v.directories) (sym c.outline.view_is) c.requires.begins
