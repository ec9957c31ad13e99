use Rattle.lfs_pack.proofs.SoundOutlinesFit.{sound_outlines_can_be_taken}
use Rattle.lfs_pack.proofs.image_laws.sound_outlines_can_be_taken.Goals as goal

pub returns : goal.returns
returns c = sound_outlines_can_be_taken c.names_are_decided.ensures
