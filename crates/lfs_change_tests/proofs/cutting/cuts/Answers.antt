-- All directories are in front.
use Rattle.std.proofs.Common.{ap, arith, length}
use Rattle.lfs_fs.specs.Volume.{Volume}
use Rattle.lfs_draft.proofs.FrontLemmas.{clean_past}
use Rattle.lfs_change_tests.proofs.cutting.cuts.Goals as goal

pub cut-requires-clause-front : goal.cut-requires-clause-front
cut-requires-clause-front c =
    clean_past c.len-front.result c.args.outline.now.directories
    (omega (arith, c.len-front.ensures, c.outline.inside.directories.ok.0, ap (λ (v : Volume). length v.directories) c.outline.view_is))
