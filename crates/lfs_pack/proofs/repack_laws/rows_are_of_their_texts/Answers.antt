use Rattle.lfs_pack.proofs.TextLemmas.{rows_are_of_their_texts}
use Rattle.lfs_pack.proofs.repack_laws.rows_are_of_their_texts.Goals as goal

pub returns : goal.returns
returns c = rows_are_of_their_texts
