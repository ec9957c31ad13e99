-- The first part has no entry, and neither has any other.
use Rattle.std.proofs.Common.{◌≡◌, ◌==◌, true, length, ap, sym, ◌∙◌}
use Rattle.std.specs.List.{list_all}
use Rattle.lfs_fs.specs.declared.outline_directory.OutlineParts.{OutlineParts}
use Rattle.lfs_fs.specs.Directory.{Directory, Part}
use Rattle.lfs_draft.proofs.BareDirectories.{none_behind_first}
use Rattle.lfs_draft.proofs.bare.is_empty.Goals as goal

pub returns-then-has_none : goal.returns-then-has_none
returns-then-has_none c =
    let more : c.deref-then-has_none-2.result.now ≡ c.args.directory.now.more = c.deref-then-has_none-2.ensures.value ∙ ap (λ (ps : OutlineParts). ps.more.items) c.deref-then-has_none.ensures
    ∙ ap (λ (d : Directory). d.more) c.directory.view_is in
    let first : (length c.args.directory.now.first.entries == 0) ≡ true =
    sym (c.has_none.ensures ∙ ap (λ (ps : OutlineParts). length ps.first.entries == 0) c.deref.ensures ∙ ap (λ (d : Directory). length d.first.entries == 0) c.directory.view_is) ∙ c.if-has_none.true in
    c.have_none.ensures
    ∙ ap (list_all (λ (p : Part). length p.entries == 0)) more
    ∙ none_behind_first c.args.directory.now first
