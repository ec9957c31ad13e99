use Rattle.std.proofs.Common.{ap, ◌∙◌}
use Rattle.std.specs.Option.{option_and_then}
use Rattle.lfs_fs.specs.Entry.{target}
use Rattle.lfs_draft.proofs.thread_changes.target_of.Goals as goal

pub returns-in_err-entry_in : goal.returns-in_err-entry_in
returns-in_err-entry_in c = c.from_residual.ensures ∙ ap (option_and_then target) c.in_err-entry_in.ensures

pub returns : goal.returns
returns c = c.target.ensures ∙ ap (option_and_then target) c.in_ok-entry_in.ensures
