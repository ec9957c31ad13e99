use Rattle.std.proofs.Common.{refl}
use Rattle.clap.specs.Words.{found_of, rows_of}
use Rattle.lfs_grammar.specs.Grammar.{inline_max}
use Rattle.lfs_grammar.proofs.CommandLemmas.{inline_max_is}
use Rattle.lfs_arguments.proofs.OptionLemmas.{number_as_said}
use Rattle.lfs_arguments.proofs.operations.most_if_said.Goals as goal

pub returns : goal.returns
returns c =
    number_as_said c.number_if_said.result inline_max (rows_of (found_of c.args.options.now)) c.number_if_said.ensures.some
    (λ none said. c.number_if_said.ensures.none none inline_max refl inline_max_is said)
