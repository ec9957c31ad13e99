-- One change more is laid, and there is room for it.
use Rattle.std.proofs.Common.{◌≡◌, List, length, ap, sym, ◌∙◌, subst, arith}
use Rattle.std.specs.Vec.Iter.{into_iter_len}
use Rattle.std.proofs.lemmas.Iterator.Adapters.{YieldsList-from_vec}
use Rattle.std.proofs.lemmas.Iterator.Consumers.{YieldsList-turn, YieldsList-end}
use Rattle.std.proofs.lemmas.List.{length_push, map-id}
use Rattle.lfs_block.specs.Change.{Change, IsRising}
use Rattle.lfs_journal.specs.Joined.{laid, laid_over}
use Rattle.lfs_journal.proofs.LaidLemmas.{laid_over-more, rising-laid}
use Rattle.lfs_journal.proofs.laying.lay_over.Goals as goal

pub lay-requires-clause-room : goal.lay-requires-clause-room
lay-requires-clause-room c =
    let gives = c.into_iter-change-iterator.ensures.into_iter_gives in
    let len : into_iter_len c.into_iter-change-iterator.result ≡ length c.args.changes.items =
    omega (arith, gives.1, c.args.changes.ok.0) in
    let all = YieldsList-from_vec c.args.changes.items gives.0 len in
    let turn = YieldsList-turn all c.loop-change.yielded c.loop-change.change-iterator c.loop-change.yielded_by c.next.result c.next.new.self
    c.in-Some.change c.in-Some.is c.next.ensures.steps in
    let room = c.loop-change.invariant.room in
    omega (arith, turn.0, c.args.changes.ok.0)

pub loop-change-preserved : goal.loop-change-preserved
loop-change-preserved c =
    let yielded = c.loop-change.yielded in
    let one = length_push yielded c.in-Some.change in
    record {
      laid = c.lay.ensures.laid
          ∙ ap (λ (cs : List Change). laid cs c.in-Some.change) c.loop-change.invariant.laid
          ∙ sym (laid_over-more c.args.records.now.items yielded c.in-Some.change);
      rising = subst IsRising (sym c.lay.ensures.laid)
          (rising-laid c.loop-change.records.items c.in-Some.change c.loop-change.invariant.rising);
      room = omega arith;
    }

pub returns : goal.returns
returns c =
    let gives = c.into_iter-change-iterator.ensures.into_iter_gives in
    let len : into_iter_len c.into_iter-change-iterator.result ≡ length c.args.changes.items =
    omega (arith, gives.1, c.args.changes.ok.0) in
    let all = YieldsList-from_vec c.args.changes.items gives.0 len in
    let end = YieldsList-end all c.loop-change.yielded c.loop-change.change-iterator c.loop-change.yielded_by c.next.result c.next.new.self
    c.in-None.is c.next.ensures.steps in
    c.loop-change.invariant.laid
    ∙ ap (laid_over c.args.records.now.items) (sym (map-id c.loop-change.yielded) ∙ end.0)
