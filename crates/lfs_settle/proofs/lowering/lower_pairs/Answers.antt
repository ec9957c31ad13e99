-- One more pair is lowered.
use Rattle.std.proofs.Common.{◌<◌, ℕ, get_or, sym, subst}
use Rattle.lfs_settle.proofs.PairsLowered.{next_fresh, next_lowered}
use Rattle.lfs_settle.proofs.lowering.lower_pairs.Goals as goal

pub lower_pair-requires-clause-apart : goal.lower_pair-requires-clause-apart
lower_pair-requires-clause-apart g c =
    (next_fresh (g.B.Blocks.disk c.args.image.now) c.args.pairs.now c.loop-pair.pair-index (0, 0) c.loop-pair-test.true c.requires.within
    c.requires.apart).apart

pub lower_pair-requires-clause-first : goal.lower_pair-requires-clause-first
lower_pair-requires-clause-first g c =
    subst (λ (n : ℕ). (get_or c.args.pairs.now c.loop-pair.pair-index (0, 0)).0 < n) (sym c.loop-pair.invariant.count)
    (next_fresh (g.B.Blocks.disk c.args.image.now) c.args.pairs.now c.loop-pair.pair-index (0, 0) c.loop-pair-test.true c.requires.within
    c.requires.apart).first

pub lower_pair-requires-clause-second : goal.lower_pair-requires-clause-second
lower_pair-requires-clause-second g c =
    subst (λ (n : ℕ). (get_or c.args.pairs.now c.loop-pair.pair-index (0, 0)).1 < n) (sym c.loop-pair.invariant.count)
    (next_fresh (g.B.Blocks.disk c.args.image.now) c.args.pairs.now c.loop-pair.pair-index (0, 0) c.loop-pair-test.true c.requires.within
    c.requires.apart).second

pub loop-pair-preserved : goal.loop-pair-preserved
loop-pair-preserved g c =
    next_lowered (g.B.Blocks.disk c.args.image.now) c.args.pairs.now c.loop-pair.pair-index (0, 0) c.loop-pair-test.true c.requires.within
    c.requires.apart c.parts_depend_on_their_blocks.ensures (g.B.Blocks.disk c.loop-pair.image) (g.B.Blocks.disk c.lower_pair.new.image) c.loop-pair.invariant c.in_ok-lower_pair.ensures
