use Rattle.lfs_meta.proofs.LiveLemmas.{live-read}
use Rattle.lfs_meta.proofs.laws.live_blocks_are_read.Goals as goal

pub returns : goal.returns
returns c = live-read
