use Rattle.lfs_json.proofs.RecordTextLemmas.{limits_have_texts, summaries_have_texts}
use Rattle.lfs_json.proofs.record_laws.summaries_have_texts.Goals as goal

pub returns-clause-summaries : goal.returns-clause-summaries
returns-clause-summaries c = summaries_have_texts

pub returns-clause-limits : goal.returns-clause-limits
returns-clause-limits c = limits_have_texts
