-- The last entry is the one of its name.
use Rattle.std.proofs.Common.{ap, sym, ◌∙◌}
use Rattle.std.specs.Option.{option_copied}
use Rattle.lfs_fs.specs.Directory.{Part}
use Rattle.lfs_draft.proofs.LastNames.{last_entry_found}
use Rattle.lfs_draft.proofs.last_names.last_named.Goals as goal

pub returns-in-Some : goal.returns-in-Some
returns-in-Some c =
    last_entry_found c.names_are_ordered.ensures c.args.name.now c.args.directory.now c.last_part-part.result.now c.deref.result.now
    c.in-Some.entry.now c.last_part-part.ensures c.requires (c.deref.ensures.value ∙ ap (λ (p : Part). p.entries) c.part.view_is)
    (sym c.last.ensures.value ∙ ap option_copied c.in-Some.is) (sym c.is_named.ensures ∙ c.if-is_named.true)
