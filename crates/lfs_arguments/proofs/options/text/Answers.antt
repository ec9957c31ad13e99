use Rattle.std.proofs.Common.{◌∙◌, None, refl, sym}
use Rattle.clap.specs.Words.{found_of}
use Rattle.clap.proofs.WalkLemmas.{first_value-rows}
use Rattle.lfs_arguments.proofs.OptionLemmas.{text_there}
use Rattle.lfs_arguments.proofs.options.text.Goals as goal

pub returns-in-Some-clause-some : goal.returns-in-Some-clause-some
returns-in-Some-clause-some c = sym (c.in-Some.ensures ∙ first_value-rows (found_of c.args.options.now) c.args.id.now)

pub returns-in-None-clause-none : goal.returns-in-None-clause-none
returns-in-None-clause-none c =
    (refl, λ rule is said. text_there (found_of c.args.options.now) c.args.id.now None rule c.in-None.ensures refl is said)
