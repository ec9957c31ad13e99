-- The pair holds what version 2.1 read of it.
use Rattle.std.proofs.Common.{◌∙◌, ℕ, length, ap, sym, subst}
use Rattle.std.proofs.lemmas.Bool.{OnTrue_at}
use Rattle.std.proofs.lemmas.Result.{on_ok_weaker}
use Rattle.lfs_block.specs.Disk.{Disk}
use Rattle.lfs_lower.specs.Lowered.{IsReadFor}
use Rattle.lfs_lower.proofs.AloneBlocks.{apart_by, beside_within, live_within}
use Rattle.lfs_lower.proofs.LoweredPairs.{alone_lowered, plain_lowered}
use Rattle.lfs_lower.proofs.lowering.lower_pair.Goals as goal

pub block_for-requires-clause-live : goal.block_for-requires-clause-live
block_for-requires-clause-live g c = (c.in_ok-live.beside, c.in_ok-live.ensures)

pub write_alone-requires-clause-complete : goal.write_alone-requires-clause-complete
write_alone-requires-clause-complete g c = ap length c.deref.ensures.value ∙ c.in_ok-block.ensures.len

pub write_alone-requires-clause-apart : goal.write_alone-requires-clause-apart
write_alone-requires-clause-apart g c =
    apart_by c.args.pair c.in_ok-live.live c.in_ok-live.beside c.requires.apart c.in_ok-live.ensures.of

pub write_alone-requires-clause-first : goal.write_alone-requires-clause-first
write_alone-requires-clause-first g c =
    live_within (g.B.Blocks.disk c.args.image.now).count c.args.pair c.in_ok-live.live c.in_ok-live.beside c.requires.first c.requires.second
    c.in_ok-live.ensures.of

pub write_alone-requires-clause-second : goal.write_alone-requires-clause-second
write_alone-requires-clause-second g c =
    beside_within (g.B.Blocks.disk c.args.image.now).count c.args.pair c.in_ok-live.live c.in_ok-live.beside c.requires.first c.requires.second
    c.in_ok-live.ensures.of

pub returns-then-branch : goal.returns-then-branch
returns-then-branch g c =
    let plain = OnTrue_at c.if-branch.true c.in_ok-is_plain_pair.ensures in
    plain_lowered (g.B.Blocks.disk c.args.image.now) c.args.pair c.size-fits_the_limits.ensures.disk plain.0 plain.1

pub returns : goal.returns
returns g c =
    let d : Disk = (g.B.Blocks.disk c.args.image.now) in
    let e : Disk = (g.B.Blocks.disk c.write_alone.new.image) in
    let live : ℕ = c.in_ok-live.live in
    let beside : ℕ = c.in_ok-live.beside in
    let block : IsReadFor d c.args.pair c.deref.result.now = subst (IsReadFor d c.args.pair) (sym c.deref.ensures.value) c.in_ok-block.ensures in
    on_ok_weaker c.write_alone.result (alone_lowered c.erased_block.ensures c.log_is_read.ensures d e c.args.pair live beside c.deref.result.now c.size-fits_the_limits.ensures.disk
    c.in_ok-live.ensures.of block)
    c.write_alone.ensures.written
