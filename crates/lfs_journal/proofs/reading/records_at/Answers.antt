use Rattle.std.proofs.Common.{ap}
use Rattle.std.proofs.lemmas.Result.{err_from_is_err_and}
use Rattle.lfs_block.specs.Change.{Change}
use Rattle.lfs_journal.specs.Reading.{changes_at}
use Rattle.lfs_journal.proofs.Loops.{changes_go_on, changes_refuse, changes_done}
use Rattle.lfs_journal.proofs.reading.records_at.Goals as goal

pub returns-in_err-record : goal.returns-in_err-record
returns-in_err-record c =
    let size = c.args.size in
    let counts = c.args.counts in
    let p = err_from_is_err_and c.from_residual.result c.from_residual.ensures.1 in
    rw (p.1, p.2) (changes_refuse c.in_err-record.field-0.0 size counts.before counts.after c.loop.records.items c.args.many c.loop.counter
    c.loop.least c.loop.rest.now
    (changes_at size counts.before counts.after c.args.many 0 c.args.bytes.now) c.loop-test.true c.in_err-record.ensures.given c.loop.invariant)

pub loop-preserved : goal.loop-preserved
loop-preserved c =
    let size = c.args.size in
    let counts = c.args.counts in
    let number = ap (λ (r : Change). r.number) c.record.view_is in
    rw (c.in_ok-push.ensures.items, number) (changes_go_on size counts.before counts.after c.loop.records.items c.args.many c.loop.counter c.loop.least
    c.loop.rest.now c.in_ok-record.record c.in_ok-record.behind.now
    (changes_at size counts.before counts.after c.args.many 0 c.args.bytes.now) c.loop-test.true c.in_ok-record.ensures.given c.loop.invariant)

pub returns : goal.returns
returns c =
    let size = c.args.size in
    let counts = c.args.counts in
    changes_done size counts.before counts.after c.loop.records.items c.args.many c.loop.counter c.loop.least c.loop.rest.now
    (changes_at size counts.before counts.after c.args.many 0 c.args.bytes.now)
    c.loop-test.false c.loop.invariant
