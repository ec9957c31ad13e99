use Rattle.lfs_json.proofs.RecordTextLemmas.{blocks_have_texts}
use Rattle.lfs_json.proofs.record_laws.blocks_have_texts.Goals as goal

pub returns : goal.returns
returns c = blocks_have_texts
