-- The parts are those in the box.
use Rattle.std.proofs.Common.{ap, subst, sym, ◌∙◌}
use Rattle.std.specs.Prelude.{◌∷◌, ◌≤◌, count_by, flat_map}
use Rattle.lfs_fs.specs.declared.outline_directory.OutlineParts.{OutlineParts}
use Rattle.lfs_fs.specs.Directory.{Directory, entries}
use Rattle.lfs_fs.specs.Entry.{is_named}
use Rattle.lfs_command.specs.DirectoryEdit.{unlink_in}
use Rattle.lfs_draft.proofs.directory_edit.unlink_in.Goals as goal

pub unlink_parts-requires : goal.unlink_parts-requires
unlink_parts-requires c =
    let n = c.args.name.now in
    subst (λ (ps : OutlineParts). count_by (is_named n) (flat_map (λ p. p.entries) (ps.first ∷ ps.more.items)) ≤ 1)
    (sym c.deref_mut-parts.ensures.value)
    (subst (λ (d : Directory). count_by (is_named n) (entries d) ≤ 1) (sym c.directory.view_is) c.requires)

pub returns : goal.returns
returns c =
    let n = c.args.name.now in
    c.unlink_parts.ensures
    ∙ ap (λ (ps : OutlineParts). unlink_in n (record { first = ps.first; more = ps.more.items })) c.deref_mut-parts.ensures.value
    ∙ ap (unlink_in n) c.directory.view_is
