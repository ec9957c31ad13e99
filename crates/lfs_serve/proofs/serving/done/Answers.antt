use Rattle.std.proofs.lemmas.Bool.{true≢false}
use Rattle.lfs_serve.proofs.serving.done.Goals as goal

pub returns-in-Pack : goal.returns-in-Pack
returns-in-Pack g c = rw c.in-Pack.is c.packed.ensures

pub returns-in-Batch-clause-ended : goal.returns-in-Batch-clause-ended
returns-in-Batch-clause-ended g c = rw c.in-Batch.is c.batched.ensures.ended

pub returns-in-Ask-clause-ended : goal.returns-in-Ask-clause-ended
returns-in-Ask-clause-ended g c = rw c.in-Ask.is c.queried.ensures.ended

pub returns-in-Format : goal.returns-in-Format
returns-in-Format g c = rw c.in-Format.is c.formatted.ensures

pub returns-in-Repack : goal.returns-in-Repack
returns-in-Repack g c = rw c.in-Repack.is c.repacked.ensures

pub returns-in-Forget : goal.returns-in-Forget
returns-in-Forget g c = rw c.in-Forget.is c.forgotten.ensures

pub returns-in-Adopt : goal.returns-in-Adopt
returns-in-Adopt g c = rw c.in-Adopt.is c.adopted.ensures

pub returns-in-Change : goal.returns-in-Change
returns-in-Change g c = rw c.in-Change.is c.changed.ensures

pub returns-in-Extract : goal.returns-in-Extract
returns-in-Extract g c =
    rw c.in-Extract.is (record { ended = c.extracted.ensures.made; rest = ((λ _. c.extracted.ensures.kept.1), (λ made. absurd (true≢false made))) })

pub returns-in-Salvage : goal.returns-in-Salvage
returns-in-Salvage g c =
    rw c.in-Salvage.is (record { ended = c.salvaged.ensures.made; rest = ((λ _. c.salvaged.ensures.kept.1), (λ made. absurd (true≢false made))) })

pub returns-in-Ask-clause-rest : goal.returns-in-Ask-clause-rest
returns-in-Ask-clause-rest g c = rw c.in-Ask.is c.queried.ensures.rest

pub returns-in-Batch-clause-rest : goal.returns-in-Batch-clause-rest
returns-in-Batch-clause-rest g c = rw c.in-Batch.is c.batched.ensures.rest

pub returns-in-Tree : goal.returns-in-Tree
returns-in-Tree g c = rw c.in-Tree.is c.tree_changed.ensures
