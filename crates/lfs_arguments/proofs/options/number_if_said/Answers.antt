use Rattle.std.specs.Str.Parse.{ParsesUnsigned, ExplainsUnsignedError, HasUnsignedDigitsIfOk}
use Rattle.clap.specs.Words.{found_of}
use Rattle.lfs_arguments.proofs.OptionLemmas.{number_read, number_there, number_within}
use Rattle.lfs_arguments.proofs.options.number_if_said.Goals as goal

pub returns-clause-some : goal.returns-clause-some
returns-clause-some c =
    number_read _ (λ u x. ParsesUnsigned 32 10 u x × ExplainsUnsignedError 10 u x × HasUnsignedDigitsIfOk u x)
    (found_of c.args.options.now) c.args.id.now
    c.get_one.result (λ u x gives. gives.0) c.get_one.ensures.none c.get_one.ensures.value

pub returns-clause-none : goal.returns-clause-none
returns-clause-none c = λ none rule is number said.
    number_there _ (λ u x. ParsesUnsigned 32 10 u x × ExplainsUnsignedError 10 u x × HasUnsignedDigitsIfOk u x)
    (found_of c.args.options.now) c.args.id.now
    c.get_one.result rule (λ u x gives. gives.0) c.get_one.ensures.value none is number said

pub returns-clause-within : goal.returns-clause-within
returns-clause-within c =
    number_within _ (λ u x. ParsesUnsigned 32 10 u x × ExplainsUnsignedError 10 u x × HasUnsignedDigitsIfOk u x)
    (found_of c.args.options.now) c.args.id.now
    c.get_one.result (λ u x gives. gives.0) c.get_one.ensures.value
