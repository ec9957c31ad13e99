use Rattle.std.proofs.lemmas.Result.{err_from_is_err_and}
use Rattle.lfs_journal.specs.HeadSeen.{head_seen}
use Rattle.lfs_journal.specs.Reading.{patches_at}
use Rattle.lfs_journal.proofs.Loops.{patches_go_on, patches_refuse, patches_done}
use Rattle.lfs_journal.proofs.reading.patches_at.Goals as goal

pub returns-in_err-patch : goal.returns-in_err-patch
returns-in_err-patch c =
    let head = head_seen c.args.head in
    let p = err_from_is_err_and c.from_residual.result c.from_residual.ensures.1 in
    rw (p.1, p.2) (patches_refuse c.in_err-patch.field-0.0 head c.loop.patches.items c.args.many c.loop.counter
    c.loop.rest.now
    (patches_at head c.args.many c.args.bytes.now) c.loop-test.true c.in_err-patch.ensures c.loop.invariant)

pub loop-preserved : goal.loop-preserved
loop-preserved c =
    let head = head_seen c.args.head in
    rw c.in_ok-push.ensures.items (patches_go_on head c.loop.patches.items c.args.many c.loop.counter c.loop.rest.now
    c.in_ok-patch.patch c.in_ok-patch.behind.now
    (patches_at head c.args.many c.args.bytes.now) c.loop-test.true c.in_ok-patch.ensures c.loop.invariant)

pub returns : goal.returns
returns c =
    let head = head_seen c.args.head in
    patches_done head c.loop.patches.items c.args.many c.loop.counter c.loop.rest.now
    (patches_at head c.args.many c.args.bytes.now)
    c.loop-test.false c.loop.invariant
