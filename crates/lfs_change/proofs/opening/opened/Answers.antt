use Rattle.std.proofs.lemmas.Result.{IfOk-weaker}
use Rattle.lfs_change.proofs.ChangeLemmas.{some_bytes, opened_denotes}
use Rattle.lfs_change.proofs.opening.opened.Goals as goal

pub returns-then-not-is_empty-clause-opened : goal.returns-then-not-is_empty-clause-opened
returns-then-not-is_empty-clause-opened c =
    let journal = c.args.journal.now in
    let some = some_bytes journal c.is_empty.result c.is_empty.ensures c.if-not-is_empty.true in
    IfOk-weaker c.open.result _ _ (λ session opens. opened_denotes c.args.image.disk journal session some opens) c.open.ensures.opened
