-- At most two parts are at most two that overflow.
use Rattle.std.proofs.Common.{ap, arith, length}
use Rattle.std.specs.Prelude.{nat_lt}
use Rattle.lfs_fs.specs.Directory.{thread}
use Rattle.lfs_fs.specs.Volume.{Volume}
use Rattle.lfs_draft.proofs.FrontLemmas.{clean_past}
use Rattle.lfs_command.specs.Cut.{runs}
use Rattle.lfs_change_tests.proofs.NeedLemmas.{few_pass}
use Rattle.lfs_change_tests.proofs.cutting.rows_of.Goals as goal

pub choose-requires-clause-few : goal.choose-requires-clause-few
choose-requires-clause-few c =
    let o = c.args.outline.now in
    omega (arith, c.requires.parts, few_pass (λ p. nat_lt 1 (length (runs o p))) (λ p. p.dirty) (thread o.directories))

pub choose-requires-clause-front : goal.choose-requires-clause-front
choose-requires-clause-front c =
    clean_past c.len-front.result c.args.outline.now.directories
    (omega (arith, c.len-front.ensures, c.outline.inside.directories.ok.0, ap (λ (v : Volume). length v.directories) c.outline.view_is))
