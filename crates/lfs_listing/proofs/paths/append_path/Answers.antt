use Rattle.std.proofs.Common.{arith}
use Rattle.lfs_listing.proofs.FlatLemmas.{names_more}
use Rattle.lfs_listing.proofs.paths.append_path.Goals as goal

pub loop-name-preserved : goal.loop-name-preserved
loop-name-preserved c =
    names_more c.args.text.now.items _ _ c.args.path.now c.loop-name.name-index _ (omega arith) c.loop-name.invariant c.in_ok-append_name.ensures
