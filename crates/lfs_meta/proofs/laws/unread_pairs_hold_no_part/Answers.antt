use Rattle.lfs_meta.proofs.UnreadLemmas.{unread}
use Rattle.lfs_meta.proofs.laws.unread_pairs_hold_no_part.Goals as goal

pub returns : goal.returns
returns c = unread
