-- Each record writes the next change backwards, and the image is cut.
use Rattle.std.proofs.Common.{rules, ◌≡◌, ◌≤◌, length, map, ap, sym, subst, ◌∙◌, arith}
use Rattle.std.proofs.lemmas.List.{length-map}
use Rattle.lfs_block.specs.Change.{flip}
use Rattle.lfs_block.specs.Patch.{ChangeSet, IsGrowth}
use Rattle.lfs_block.proofs.PatchLemmas.{uncut-fits}
use Rattle.lfs_block.proofs.WritingLemmas.{IsAt, at-read, at-flipped, changed-none, changed-next, cut-all, cut-geometry, next-put, next-writes}
use Rattle.lfs_block.proofs.patch.Patch.revert.Goals as goal

pub loop-record-init : goal.loop-record-init
loop-record-init c =
    let is : IsGrowth c.args.self.now = subst IsGrowth c.self.view_is c.self.invariant in
    record {
      made = changed-none (map flip c.args.self.now.changes) c.args.image.now.disk c.room.ensures.medium.disk
          (uncut-fits c.args.self.now c.args.image.now.disk c.room.ensures.medium.disk is c.requires);
      room = search rules;
    }

pub write_block-requires : goal.write_block-requires
write_block-requires c =
    let at : IsAt c.args.self.now.changes c.loop-record.record-index c.record-item.result =
    at-read c.args.self.now _ c.deref-record-items.result.now c.loop-record.record-index c.record-item.result c.self.view_is
    c.deref-record-items.ensures.value
    c.loop-record-test.true c.record-item.is in
    let writes =
    next-writes (map flip c.args.self.now.changes) c.loop-record.record-index _
    (flip c.record-item.result) c.deref.result.now c.args.image.now.disk c.loop-record.image.disk c.loop-record.invariant.made
    (at-flipped c.args.self.now.changes c.loop-record.record-index c.record-item.result at)
    (ap flip c.record.view_is) c.deref.ensures.value in
    record { within = writes.0; complete = writes.1 }

pub loop-record-preserved : goal.loop-record-preserved
loop-record-preserved c =
    let at : IsAt c.args.self.now.changes c.loop-record.record-index c.record-item.result =
    at-read c.args.self.now _ c.deref-record-items.result.now c.loop-record.record-index c.record-item.result c.self.view_is
    c.deref-record-items.ensures.value
    c.loop-record-test.true c.record-item.is in
    record {
      made = changed-next (map flip c.args.self.now.changes) c.loop-record.record-index
          (flip c.record-item.result) c.args.image.now.disk c.loop-record.image.disk c.write_block.new.self.disk
          c.loop-record.invariant.made
          (at-flipped c.args.self.now.changes c.loop-record.record-index c.record-item.result at)
          (next-put _ (flip c.record-item.result) c.deref.result.now c.loop-record.image.disk c.write_block.new.self.disk
          (ap flip c.record.view_is) c.deref.ensures.value c.write_block.ensures.disk);
      room = c.write_block.ensures.room ∙ c.loop-record.invariant.room;
    }

pub resize-requires : goal.resize-requires
resize-requires c =
    let is : IsGrowth c.args.self.now = subst IsGrowth c.self.view_is c.self.invariant in
    let most : c.args.self.now.before ≤ c.loop-record.image.room =
    omega (arith, is.rise, c.requires.count, c.room.ensures.medium.room, c.loop-record.invariant.room) in
    record {
      geometry = cut-geometry c.args.self.now _ c.args.image.now.disk c.loop-record.image.disk c.self.view_is c.self.invariant
          c.requires.size c.loop-record.invariant.made.disk;
      room = subst (λ (p : ChangeSet). p.before ≤ c.loop-record.image.room) (sym c.self.view_is) most;
    }

pub returns : goal.returns
returns c =
    let seen : c.deref-record-items.result.now ≡ c.args.self.now.changes =
    c.deref-record-items.ensures.value ∙ ap (λ (p : ChangeSet). p.changes) c.self.view_is in
    let end : length (map flip c.args.self.now.changes) ≡ length c.deref-record-items.result.now =
    length-map c.args.self.now.changes flip ∙ ap length (sym seen) in
    let is : IsGrowth c.args.self.now = subst IsGrowth c.self.view_is c.self.invariant in
    let all = cut-all c.args.self.now _ c.loop-record.record-index c.args.image.now.disk c.loop-record.image.disk
    c.resize.new.self.disk c.self.view_is is c.room.ensures.medium.disk c.requires (omega arith) c.loop-record.invariant.made
    c.resize.ensures.disk in
    record {
      reverted = all.0;
      disk = all.1;
      room = c.resize.ensures.room ∙ c.loop-record.invariant.room;
    }
