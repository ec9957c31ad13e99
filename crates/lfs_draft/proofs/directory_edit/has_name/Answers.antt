-- The last entry has it, or one is sought.
use Rattle.std.proofs.Common.{ap, sym, ◌∙◌}
use Rattle.std.specs.Option.{option_copied}
use Rattle.lfs_fs.specs.Directory.{Part}
use Rattle.lfs_draft.proofs.LastNames.{has_last}
use Rattle.lfs_draft.proofs.directory_edit.has_name.Goals as goal

pub returns-in-Some : goal.returns-in-Some
returns-in-Some c =
    has_last c.args.name.now c.args.part.now c.deref.result.now c.in-Some.entry.now
    (c.deref.ensures.value ∙ ap (λ (p : Part). p.entries) c.part.view_is)
    (sym c.last.ensures.value ∙ ap option_copied c.in-Some.is) (sym c.is_named.ensures ∙ c.if-is_named.true)
