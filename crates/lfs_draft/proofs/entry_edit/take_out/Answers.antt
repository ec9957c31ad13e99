-- What is kept has another name.
use Rattle.std.proofs.Common.{not, rules}
use Rattle.std.proofs.lemmas.Fn.{filter_same}
use Rattle.lfs_fs.specs.Entry.{is_named}
use Rattle.lfs_draft.proofs.entry_edit.take_out.Goals as goal

pub returns : goal.returns
returns c = filter_same _ (λ e. not (is_named c.args.name.now e)) _ (λ x b f' r. search rules) _ _ c.retain.ensures.filtered
