use Rattle.lfs_fs.proofs.NoCauseLemmas.{mounted_have_no_cause}
use Rattle.lfs_fs.proofs.laws.mounted_images_have_no_cause.Goals as goal

pub returns : goal.returns
returns c = mounted_have_no_cause c.unread_pairs_hold_no_part.ensures c.files_have_one_chain.ensures.chain
    c.contents_have_their_length.ensures
