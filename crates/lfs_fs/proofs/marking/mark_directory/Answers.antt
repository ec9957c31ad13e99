-- A directory's parts are marked one after another.
use Rattle.std.proofs.Common.{List, ap, ◌∙◌, subst}
use Rattle.std.specs.Prelude.{sum_by}
use Rattle.lfs_fs.specs.Directory.{Directory, Part}
use Rattle.lfs_fs.specs.declared.outline_directory.OutlineParts.{OutlineParts}
use Rattle.lfs_fs.specs.MarksMore.{MarksMore}
use Rattle.lfs_fs.specs.Uses.{directory_uses, part_uses}
use Rattle.lfs_fs.proofs.MarkingLemmas.{directory_split, marks_then}
use Rattle.lfs_fs.proofs.marking.mark_directory.Goals as goal

pub returns : goal.returns
returns c =
    marks_then c.args.used.now c.mark_part.new.used c.mark_parts.new.used
    (λ b. part_uses b c.args.directory.now.first) (λ b. sum_by (part_uses b) c.args.directory.now.more)
    (λ b. directory_uses b c.args.directory.now)
    (λ b. directory_split b c.args.directory.now)
    (subst (λ (d : Directory). MarksMore c.args.used.now c.mark_part.new.used (λ b. part_uses b d.first)) c.directory.view_is
    (subst (λ (ps : OutlineParts). MarksMore c.args.used.now c.mark_part.new.used (λ b. part_uses b ps.first)) c.deref.ensures
    c.mark_part.ensures))
    (subst (λ (d : Directory). MarksMore c.mark_part.new.used c.mark_parts.new.used (λ b. sum_by (part_uses b) d.more)) c.directory.view_is
    (subst (λ (ps : List Part). MarksMore c.mark_part.new.used c.mark_parts.new.used (λ b. sum_by (part_uses b) ps))
    (c.deref-3.ensures.value ∙ ap (λ (ps : OutlineParts). ps.more.items) c.deref-2.ensures) c.mark_parts.ensures))
