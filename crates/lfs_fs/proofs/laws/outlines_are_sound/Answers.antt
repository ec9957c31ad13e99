use Rattle.lfs_fs.proofs.SoundOutlineLemmas.{outlines_are_sound}
use Rattle.lfs_fs.proofs.laws.outlines_are_sound.Goals as goal

pub returns : goal.returns
returns c = outlines_are_sound
