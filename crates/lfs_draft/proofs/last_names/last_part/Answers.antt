-- It is the last of the parts behind the first, if there is one.
use Rattle.std.proofs.Common.{ap, sym, ◌∙◌}
use Rattle.std.specs.Option.{option_copied}
use Rattle.lfs_fs.specs.declared.outline_directory.OutlineParts.{OutlineParts}
use Rattle.lfs_draft.proofs.LastNames.{last_is_more}
use Rattle.lfs_draft.proofs.last_names.last_part.Goals as goal

pub returns-in-Some : goal.returns-in-Some
returns-in-Some c =
    last_is_more c.args.directory.now c.directory.inside.parts.value.first c.in-Some.part.now c.directory.inside.parts.value.more.items c.deref-2.result.now
    c.directory.view_is (c.deref-2.ensures.value ∙ ap (λ (ps : OutlineParts). ps.more.items) c.deref.ensures) (sym c.last.ensures.value ∙ ap option_copied c.in-Some.is)
