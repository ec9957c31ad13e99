-- The image is lengthened, and each record writes the next change.
use Rattle.std.proofs.Common.{◌≡◌, ◌≤◌, length, ap, sym, subst, ◌∙◌, arith}
use Rattle.lfs_block.specs.Disk.{resized}
use Rattle.lfs_block.specs.Patch.{ChangeSet, IsGrowth}
use Rattle.lfs_block.proofs.WritingLemmas.{IsAt, at-read, changed-next, grown-all, grown-geometry, grown-none, next-put, next-writes}
use Rattle.lfs_block.proofs.patch.Patch.apply.Goals as goal

pub resize-requires : goal.resize-requires
resize-requires c =
    record {
      geometry = grown-geometry c.args.self.now _ c.args.image.now.disk c.self.view_is c.self.invariant c.requires.agrees.size;
      room = subst (λ (p : ChangeSet). p.after ≤ c.args.image.now.room) (sym c.self.view_is) c.requires.room;
    }

pub loop-record-init : goal.loop-record-init
loop-record-init c =
    record {
      made = grown-none c.args.self.now _ c.args.image.now.disk c.resize.new.self.disk c.self.view_is c.self.invariant
          c.size.ensures.disk c.requires.agrees.size c.resize.ensures.disk;
      room = c.resize.ensures.room;
    }

pub write_block-requires : goal.write_block-requires
write_block-requires c =
    let at : IsAt c.args.self.now.changes c.loop-record.record-index c.record-item.result =
    at-read c.args.self.now _ c.deref-record-items.result.now c.loop-record.record-index c.record-item.result c.self.view_is
    c.deref-record-items.ensures.value
    c.loop-record-test.true c.record-item.is in
    let writes =
    next-writes c.args.self.now.changes c.loop-record.record-index _ c.record-item.result c.deref.result.now
    (resized c.args.self.now.after c.args.image.now.disk) c.loop-record.image.disk c.loop-record.invariant.made
    at c.record.view_is c.deref.ensures.value in
    record { within = writes.0; complete = writes.1 }

pub loop-record-preserved : goal.loop-record-preserved
loop-record-preserved c =
    let at : IsAt c.args.self.now.changes c.loop-record.record-index c.record-item.result =
    at-read c.args.self.now _ c.deref-record-items.result.now c.loop-record.record-index c.record-item.result c.self.view_is
    c.deref-record-items.ensures.value
    c.loop-record-test.true c.record-item.is in
    record {
      made = changed-next c.args.self.now.changes c.loop-record.record-index c.record-item.result
          (resized c.args.self.now.after c.args.image.now.disk) c.loop-record.image.disk c.write_block.new.self.disk
          c.loop-record.invariant.made at
          (next-put _ c.record-item.result c.deref.result.now c.loop-record.image.disk c.write_block.new.self.disk
          c.record.view_is c.deref.ensures.value c.write_block.ensures.disk);
      room = c.write_block.ensures.room ∙ c.loop-record.invariant.room;
    }

pub returns : goal.returns
returns c =
    let seen : c.deref-record-items.result.now ≡ c.args.self.now.changes =
    c.deref-record-items.ensures.value ∙ ap (λ (p : ChangeSet). p.changes) c.self.view_is in
    let end : length c.args.self.now.changes ≡ length c.deref-record-items.result.now = ap length (sym seen) in
    let is : IsGrowth c.args.self.now = subst IsGrowth c.self.view_is c.self.invariant in
    let all = grown-all c.args.self.now c.loop-record.record-index c.args.image.now.disk c.loop-record.image.disk is
    c.size.ensures.disk c.requires.agrees.size (omega arith) c.loop-record.invariant.made in
    record { applied = all.0; disk = all.1; room = c.loop-record.invariant.room }
