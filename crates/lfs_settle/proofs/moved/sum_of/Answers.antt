-- One share more.
use Rattle.std.proofs.Common.{◌≡◌, ℕ, ap, sym, ◌∙◌}
use Rattle.std.specs.Prelude.{bit_xor}
use Rattle.lfs_fs.specs.Gathering.{PairPart}
use Rattle.lfs_fs.specs.State.{little_endian}
use Rattle.lfs_settle.proofs.MovedEntry.{delta_more}
use Rattle.lfs_settle.proofs.moved.sum_of.Goals as goal

pub loop-part-preserved : goal.loop-part-preserved
loop-part-preserved c =
    let p : PairPart = c.part-item.result in
    let share : c.of.result ≡ little_endian p.1.delta = c.of.ensures ∙ ap (λ (x : PairPart). little_endian x.1.delta) c.part.view_is in
    c.joined-sum.ensures
    ∙ ap (bit_xor c.loop-part.sum) share
    ∙ ap (λ (n : ℕ). bit_xor n (little_endian p.1.delta)) c.loop-part.invariant
    ∙ sym (delta_more c.args.parts.now c.loop-part.part-index p c.loop-part-test.true c.part-item.is)
