use Rattle.std.proofs.Common.{refl}
use Rattle.clap.specs.Words.{found_of, rows_of}
use Rattle.lfs_grammar.specs.Grammar.{keep}
use Rattle.lfs_grammar.proofs.CommandLemmas.{keep_is}
use Rattle.lfs_arguments.proofs.OptionLemmas.{kept_within, number_as_said}
use Rattle.lfs_arguments.proofs.operations.keep_of.Goals as goal

pub returns-clause-kept : goal.returns-clause-kept
returns-clause-kept c =
    number_as_said c.number_if_said.result keep (rows_of (found_of c.args.options.now)) c.number_if_said.ensures.some
    (λ none said. c.number_if_said.ensures.none none keep refl keep_is said)

pub returns-clause-within : goal.returns-clause-within
returns-clause-within c = λ name changes names.
    kept_within c.number_if_said.result name (rows_of (found_of c.args.options.now)) changes
    c.number_if_said.ensures.some c.number_if_said.ensures.within names
