use Rattle.lfs_sync.proofs.SpelledLemmas as spelled
use Rattle.lfs_sync.proofs.laws.texts_spell_their_commands.Goals as goal

pub returns : goal.returns
returns c = spelled.texts_spell_their_commands c.texts_spell_one_path.ensures
