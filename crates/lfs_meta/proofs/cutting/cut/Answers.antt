use Rattle.std.proofs.Common.{◌∙◌, sym, arith, is_ok}
use Rattle.lfs_meta.proofs.CuttingLoop.{taken_next, left_next, cut_complete, pushed}
use Rattle.lfs_meta.proofs.cutting.cut.Goals.{then-run_takes, else-run_takes+in_ok-ok}
use Rattle.lfs_meta.proofs.cutting.cut.Goals as goal

pub loop-entry-preserved : goal.loop-entry-preserved
loop-entry-preserved c = elim c.if-run_takes.branch [
  | then-run_takes w ↦
      (let next = taken_next c.args.room c.args.entries.now c.loop-entry.entry-index c.entry-item.result c.weight-next.result
      c.loop-entry.lengths.items c.loop-entry.taken c.loop-entry.len
      c.loop-entry-test.true c.entry-item.is c.weight-next.ensures.value c.requires
      (sym c.run_takes.ensures ∙ w.if-run_takes.true) c.loop-entry.invariant in
      rw (w.lengths-is, w.taken-is, w.len-is) next)
  | else-run_takes+in_ok-ok w ↦
      (let next = left_next c.args.room c.args.entries.now c.loop-entry.entry-index c.entry-item.result c.weight-next.result
      c.loop-entry.lengths.items c.loop-entry.taken c.loop-entry.len
      c.loop-entry-test.true c.entry-item.is c.weight-next.ensures.value c.weight-next.ensures.small
      (sym c.run_takes.ensures ∙ w.if-run_takes.false) c.loop-entry.invariant in
      let grown = pushed (is_ok w.push.result) c.loop-entry.lengths.items w.push.new.self.items c.loop-entry.len
      w.in_ok-ok.ensures.variant w.push.ensures.items in
      rw (w.lengths-is, w.taken-is, w.len-is, grown) next)
]

pub returns : goal.returns
returns c =
    pushed (is_ok c.push-2.result) c.loop-entry.lengths.items c.push-2.new.self.items c.loop-entry.len c.in_ok-ok-2.ensures.variant
    c.push-2.ensures.items
    ∙ cut_complete c.args.room c.args.entries.now c.loop-entry.entry-index c.loop-entry.lengths.items c.loop-entry.taken c.loop-entry.len
    (omega (arith, c.loop-entry-test.false)) c.loop-entry.invariant
