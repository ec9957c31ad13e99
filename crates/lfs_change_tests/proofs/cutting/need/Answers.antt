-- Parts of few entries need few blocks.
use Rattle.std.proofs.Common.{ap, arith, length}
use Rattle.lfs_fs.specs.Directory.{thread}
use Rattle.lfs_fs.specs.Volume.{Volume}
use Rattle.lfs_draft.proofs.FrontLemmas.{clean_past}
use Rattle.lfs_change_tests.proofs.NeedLemmas.{needs_few}
use Rattle.lfs_change_tests.proofs.cutting.need.Goals as goal

pub needed-requires-clause-small : goal.needed-requires-clause-small
needed-requires-clause-small c =
    omega (arith, c.requires.few, needs_few c.args.outline.now (thread c.args.outline.now.directories))

pub needed-requires-clause-front : goal.needed-requires-clause-front
needed-requires-clause-front c =
    clean_past c.len.result c.args.outline.now.directories
    (omega (arith, c.len.ensures, c.outline.inside.directories.ok.0, ap (λ (v : Volume). length v.directories) c.outline.view_is))
