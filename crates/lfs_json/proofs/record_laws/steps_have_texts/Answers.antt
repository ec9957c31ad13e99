use Rattle.lfs_json.proofs.RecordTextLemmas.{steps_have_texts}
use Rattle.lfs_json.proofs.record_laws.steps_have_texts.Goals as goal

pub returns : goal.returns
returns c = steps_have_texts
