-- A directory's parts are listed one after another.
use Rattle.std.proofs.Common.{List, ap, ◌∙◌, subst}
use Rattle.std.specs.Prelude.{sum_by}
use Rattle.lfs_fs.specs.declared.outline_directory.OutlineParts.{OutlineParts}
use Rattle.lfs_fs.specs.Directory.{Directory, Part}
use Rattle.lfs_fs.specs.Uses.{part_uses}
use Rattle.lfs_draft.specs.Freeing.{ListsMore}
use Rattle.lfs_draft.proofs.FreeingLemmas.{lists_directory}
use Rattle.lfs_draft.proofs.freeing.list_directory.Goals as goal

pub returns : goal.returns
returns c =
    let old = c.args.blocks.now.items in
    let mid = c.list_part.new.blocks.items in
    let new = c.list_parts.new.blocks.items in
    lists_directory old mid new c.args.directory.now
    (subst (λ (d : Directory). ListsMore old mid (λ b. part_uses b d.first)) c.directory.view_is
    (subst (λ (ps : OutlineParts). ListsMore old mid (λ b. part_uses b ps.first)) c.deref.ensures c.in_ok-list_part.ensures))
    (subst (λ (d : Directory). ListsMore mid new (λ b. sum_by (part_uses b) d.more)) c.directory.view_is
    (subst (λ (ps : List Part). ListsMore mid new (λ b. sum_by (part_uses b) ps)) (c.deref-3.ensures.value ∙ ap (λ (ps : OutlineParts). ps.more.items) c.deref-2.ensures) c.in_ok-list_parts.ensures))
