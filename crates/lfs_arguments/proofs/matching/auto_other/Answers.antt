use Rattle.std.proofs.Common.{inr, refl}
use Rattle.clap.specs.Words.{subcommand_rows_of}
use Rattle.lfs_arguments.proofs.AutoLemmas.{no_other}
use Rattle.lfs_arguments.proofs.Handed.{some_weaker}
use Rattle.lfs_arguments.proofs.matching.auto_other.Goals as goal

pub returns-in-None-clause-some : goal.returns-in-None-clause-some
returns-in-None-clause-some c = some_weaker c.auto_source.result _ _ (λ file says. inr says) c.auto_source.ensures.some

pub returns-in-None-clause-none : goal.returns-in-None-clause-none
returns-in-None-clause-none c = λ none file says.
    no_other (subcommand_rows_of c.args.matches.now) file (c.in-None.ensures.none refl file.name.now) (c.auto_source.ensures.none none file) says
