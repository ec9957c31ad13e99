-- The outline keeps to what a move asks for.
use Rattle.std.proofs.Common.{◌≡◌, Some, map, Bor, subst, sym}
use Rattle.lfs_meta.specs.Name.{Name}
use Rattle.lfs_fs.specs.Entry.{Entry}
use Rattle.lfs_fs.specs.Tree.{entry_in}
use Rattle.lfs_fs.specs.Volume.{Volume}
use Rattle.lfs_draft.specs.Editable.{BeginOnce, NamedOnce}
use Rattle.lfs_draft.proofs.EditableLemmas.{moved_there}
use Rattle.lfs_draft.proofs.editing.mv.Goals as goal

pub move_entry-requires-clause-once : goal.move_entry-requires-clause-once
move_entry-requires-clause-once c = subst (λ (v : Volume). BeginOnce v.directories) (sym c.outline.view_is) c.requires.begins

pub move_entry-requires-clause-named : goal.move_entry-requires-clause-named
move_entry-requires-clause-named c = subst (λ (v : Volume). NamedOnce v.directories) (sym c.outline.view_is) c.requires.named

pub move_entry-requires-clause-there : goal.move_entry-requires-clause-there
move_entry-requires-clause-there c =
    subst (λ (v : Volume). (e : Entry) × (entry_in v.directories c.parent-source.result.pair c.parent-source.result.name.now ≡ Some e))
    (sym c.outline.view_is)
    (moved_there c.args.outline.now (map (λ (x : Bor Name). x.now) c.args.from.now) (map (λ (x : Bor Name). x.now) c.args.to.now)
    (c.parent-source.result.pair, c.parent-source.result.name.now) c.requires c.parent-source.ensures.parent)
