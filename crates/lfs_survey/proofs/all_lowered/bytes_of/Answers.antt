-- One block after another.
use Rattle.std.proofs.Common.{ℕ, List, ◌++◌, ap, ◌∙◌, arith}
use Rattle.lfs_survey.proofs.CopiedLemmas.{copied_all, copied_more}
use Rattle.lfs_survey.proofs.all_lowered.bytes_of.Goals as goal

pub loop-number-preserved : goal.loop-number-preserved
loop-number-preserved c =
    copied_more c.args.image.now.disk c.loop-number.number c.loop-number.bytes.items c.extend_from_slice.new.self.items
    c.loop-number.invariant (c.in_ok-extend_from_slice.ensures.items ∙ ap (λ (bs : List ℕ). c.loop-number.bytes.items ++ bs) c.block.ensures)

pub returns : goal.returns
returns c =
    copied_all c.args.image.now.disk c.loop-number.number c.loop-number.bytes.items c.size-fits_the_limits.ensures.disk
    (let test = c.loop-number-test.false in let end = c.loop-number.auto.number-end in let count = c.count-number-end.ensures in omega arith)
    c.loop-number.invariant
