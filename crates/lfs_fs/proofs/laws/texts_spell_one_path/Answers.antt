use Rattle.lfs_fs.proofs.PathTextLemmas.{texts_spell_one_path}
use Rattle.lfs_fs.proofs.laws.texts_spell_one_path.Goals as goal

pub returns : goal.returns
returns c = texts_spell_one_path
