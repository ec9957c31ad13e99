-- No added block is looked at before the first.
use Rattle.std.proofs.Common.{◌≡◌, ap, arith}
use Rattle.lfs_block.specs.Patch.{ChangeSet}
use Rattle.lfs_block.proofs.patch.Patch.leaves_erased.Goals as goal

pub loop-n-init : goal.loop-n-init
loop-n-init c =
    let first : c.self.inside.before ≡ c.args.self.now.before = ap (λ (p : ChangeSet). p.before) c.self.view_is in
    λ k least below named. absurd (omega (arith, least, below, first))
