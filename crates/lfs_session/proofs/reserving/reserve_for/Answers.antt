-- The greatest count is one of an image, and each change fits it.
use Rattle.std.proofs.Common.{◌≡◌, ℕ, sym, ◌∙◌, subst, arith}
use Rattle.std.proofs.lemmas.List.{take_all}
use Rattle.lfs_block.specs.Geometry.{IsGeometry}
use Rattle.lfs_block.specs.Patch.{ChangeSet, IsGrowth}
use Rattle.lfs_session.specs.Known.{HasRoom}
use Rattle.lfs_session.proofs.RoomLemmas.{each_at, room_grows, room_more}
use Rattle.lfs_session.proofs.reserving.reserve_for.Goals as goal
use Rattle.lfs_session.proofs.reserving.reserve_for.Goals.{then-after-greatest, else-after-greatest}

pub loop-patch-init : goal.loop-patch-init
loop-patch-init c = record {
  geometry = subst (IsGeometry c.args.image.now.disk.size) (sym c.count-greatest.ensures) c.requires.disk.geometry;
  room = tt;
}

pub loop-patch-preserved : goal.loop-patch-preserved
loop-patch-preserved c =
    let ps = c.args.patches.now in
    let i = c.loop-patch.patch-index in
    let p : ChangeSet = c.patch-item.result in
    let size = c.args.image.now.disk.size in
    let within = c.loop-patch-test.true in
    let growth : IsGrowth p = subst IsGrowth (sym c.patch-item.is) (each_at IsGrowth ps i p c.requires.patches within) in
    let same : p.size ≡ size = subst (λ (q : ChangeSet). q.size ≡ size) (sym c.patch-item.is)
    (each_at (λ q. q.size ≡ size) ps i p c.requires.size within) in
    let after = c.after-after.ensures.value in
    elim c.if-after-greatest.branch [
      | then-after-greatest w ↦
          let is : c.if-after-greatest.greatest ≡ p.after = w.greatest-is ∙ after in
          let less = w.if-after-greatest.true in
          record {
            geometry = subst (IsGeometry size) (sym is) (subst (λ (n : ℕ). IsGeometry n p.after) same growth.patch.after);
            room = room_more c.loop-patch.greatest c.if-after-greatest.greatest ps i p (omega (arith, less, is, after)) (omega (arith, is))
                c.loop-patch.invariant.room within c.patch-item.is;
          }
      | else-after-greatest w ↦
          let is : c.if-after-greatest.greatest ≡ c.loop-patch.greatest = w.greatest-is in
          let less = w.if-after-greatest.false in
          record {
            geometry = subst (IsGeometry size) (sym is) c.loop-patch.invariant.geometry;
            room = room_more c.loop-patch.greatest c.if-after-greatest.greatest ps i p (omega (arith, is)) (omega (arith, less, is, after))
                c.loop-patch.invariant.room within c.patch-item.is;
          }
    ]

pub returns : goal.returns
returns c =
    let ps = c.args.patches.now in
    let i = c.loop-patch.patch-index in
    let all = take_all i ps c.loop-patch-test.false in
    record {
      disk = c.reserve.ensures.disk;
      room = λ yes. room_grows c.loop-patch.greatest c.reserve.new.self.room ps (c.reserve.ensures.done_is yes)
          (subst (HasRoom c.loop-patch.greatest) all c.loop-patch.invariant.room);
    }
