-- The outline keeps to what putting a file asks for.
use Rattle.std.proofs.Common.{map, Bor, subst, sym}
use Rattle.lfs_meta.specs.Name.{Name}
use Rattle.lfs_fs.specs.Volume.{Volume}
use Rattle.lfs_draft.specs.Editable.{BeginOnce, NamedOnce}
use Rattle.lfs_draft.proofs.EditableLemmas.{put_short}
use Rattle.lfs_draft.proofs.editing.put.Goals as goal

pub put_file-requires-clause-once : goal.put_file-requires-clause-once
put_file-requires-clause-once c = subst (λ (v : Volume). BeginOnce v.directories) (sym c.outline.view_is) c.requires.begins

pub put_file-requires-clause-named : goal.put_file-requires-clause-named
put_file-requires-clause-named c = subst (λ (v : Volume). NamedOnce v.directories) (sym c.outline.view_is) c.requires.named

pub put_file-requires-clause-name : goal.put_file-requires-clause-name
put_file-requires-clause-name c =
    put_short c.args.outline.now (map (λ (x : Bor Name). x.now) c.args.path.now) c.args.bytes.now c.args.most
    (c.parent-parent.result.pair, c.parent-parent.result.name.now) c.requires c.parent-parent.ensures.parent
