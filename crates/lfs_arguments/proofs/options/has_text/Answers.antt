use Rattle.std.proofs.Common.{◌∙◌}
use Rattle.clap.specs.Words.{found_of}
use Rattle.lfs_arguments.proofs.OptionLemmas.{some_there}
use Rattle.lfs_arguments.proofs.options.has_text.Goals as goal

pub returns : goal.returns
returns c = c.is_some.ensures ∙ some_there (found_of c.args.options.now) c.args.id.now c.get_str.result c.get_str.ensures
