-- A script isn't read, of a file or of standard input.
use Rattle.std.proofs.lemmas.Result.{IfErr-weaker}
use Rattle.lfs_history.specs.declared.source.Source.TheVariants.{File, Input}
use Rattle.lfs_serve.proofs.batching.script_text.Goals as goal

pub returns-in-Some-clause-refused : goal.returns-in-Some-clause-refused
returns-in-Some-clause-refused g c =
    IfErr-weaker c.read_contents.result _ _ (λ why is. (File c.in-Some.name, is)) c.read_contents.ensures.refused

pub returns-in-None-clause-refused : goal.returns-in-None-clause-refused
returns-in-None-clause-refused g c = IfErr-weaker c.read_input.result _ _ (λ why is. (Input, is)) c.read_input.ensures.refused
