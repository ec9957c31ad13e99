use Rattle.lfs_law.proofs.MadeBytes.{made_bytes_say}
use Rattle.lfs_law.proofs.written_laws.made_superblocks_say_their_volume.Goals as goal

pub returns : goal.returns
returns c = made_bytes_say
