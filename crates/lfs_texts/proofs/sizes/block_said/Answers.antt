-- The size that is said is one that blocks have, or none.
use Rattle.lfs_texts.proofs.SizeLemmas.{IsSizeSaid, no_block_said, said_auto, said_digits}
use Rattle.lfs_texts.proofs.sizes.block_said.Goals as goal
use Rattle.lfs_texts.proofs.sizes.block_said.Goals.{then-eq, else-eq+in-Ok}

pub returns-then-size-le65536-clause-block : goal.returns-then-size-le65536-clause-block
returns-then-size-le65536-clause-block c =
    let text = c.args.text.now in
    let said : IsSizeSaid text c.args.stated c.if-eq.size = elim c.if-eq.branch [
      | then-eq w ↦ said_auto text c.args.stated c.if-eq.size c.eq.result c.eq.ensures w.if-eq.true w.size-is
      | else-eq+in-Ok w ↦ said_digits text c.args.stated c.if-eq.size w.in-Ok.size c.eq.result c.eq.ensures w.if-eq.false w.size-is
          (w.in-Ok.ensures.value.0.0.0, w.in-Ok.ensures.value.0.1)
    ] in
    (said, c.if-size-ge256.true, c.if-size-le65536.true)

pub returns-else-size-ge256-clause-none : goal.returns-else-size-ge256-clause-none
returns-else-size-ge256-clause-none c =
    let text = c.args.text.now in
    let said : IsSizeSaid text c.args.stated c.if-eq.size = elim c.if-eq.branch [
      | then-eq w ↦ said_auto text c.args.stated c.if-eq.size c.eq.result c.eq.ensures w.if-eq.true w.size-is
      | else-eq+in-Ok w ↦ said_digits text c.args.stated c.if-eq.size w.in-Ok.size c.eq.result c.eq.ensures w.if-eq.false w.size-is
          (w.in-Ok.ensures.value.0.0.0, w.in-Ok.ensures.value.0.1)
    ] in
    λ none. no_block_said text c.args.stated c.if-eq.size said c.else-size-ge256.either
