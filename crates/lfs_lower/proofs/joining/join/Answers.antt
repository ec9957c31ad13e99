-- Where all parts can be put, the pairs hold them; else nothing is changed.
use Rattle.std.proofs.Common.{◌≡◌, sym, ◌∙◌, subst}
use Rattle.lfs_block.specs.Disk.{Disk}
use Rattle.lfs_lower.specs.Joined.{IsJoinedImage}
use Rattle.lfs_lower.specs.Joining.{AreSuperblockParts}
use Rattle.lfs_lower.proofs.JoinedImage.{can_be_joined, joined_all, joined_once, joined_put, stays_is, tested}
use Rattle.lfs_lower.proofs.joining.join.Goals as goal
use Rattle.lfs_lower.proofs.joining.join.Goals.{then-all_can+in_ok-put_parts, else-all_can}

pub put_parts-requires-clause-can : goal.put_parts-requires-clause-can
put_parts-requires-clause-can g c =
    let d : Disk = (g.B.Blocks.disk c.args.image.now) in
    let tested_so = subst (AreSuperblockParts d) (sym c.deref.ensures.value) c.in_ok-parts.ensures in
    let joined = subst (AreSuperblockParts d) (sym c.deref-then-all_can.ensures.value) c.in_ok-parts.ensures in
    let can : c.all_can.result ≡ can_be_joined d =
    c.all_can.ensures ∙ tested d c.deref.result.now tested_so c.size.result c.count.result c.size.ensures.value c.count.ensures in
    joined_put d c.deref-then-all_can.result.now joined (sym can ∙ c.if-all_can.true)

pub put_parts-requires-clause-apart : goal.put_parts-requires-clause-apart
put_parts-requires-clause-apart g c =
    let d : Disk = (g.B.Blocks.disk c.args.image.now) in
    joined_once d c.deref-then-all_can.result.now (subst (AreSuperblockParts d) (sym c.deref-then-all_can.ensures.value) c.in_ok-parts.ensures)

pub returns : goal.returns
returns g c =
    let d : Disk = (g.B.Blocks.disk c.args.image.now) in
    let tested_so = subst (AreSuperblockParts d) (sym c.deref.ensures.value) c.in_ok-parts.ensures in
    let can : c.all_can.result ≡ can_be_joined d =
    c.all_can.ensures ∙ tested d c.deref.result.now tested_so c.size.result c.count.result c.size.ensures.value c.count.ensures in
    elim c.if-all_can.branch [
      | then-all_can+in_ok-put_parts w ↦ subst (λ m. IsJoinedImage d (g.B.Blocks.disk m)) (sym w.image-is)
          (joined_all d w.deref-then-all_can.result.now
          (subst (AreSuperblockParts d) (sym w.deref-then-all_can.ensures.value) c.in_ok-parts.ensures) (g.B.Blocks.disk w.put_parts.new.image)
          c.parts_depend_on_their_blocks.ensures w.in_ok-put_parts.ensures (sym can ∙ w.if-all_can.true))
      | else-all_can w ↦ subst (λ m. IsJoinedImage d (g.B.Blocks.disk m)) (sym w.image-is)
          (stays_is d c.size.ensures.disk (sym can ∙ w.if-all_can.false))
    ]
