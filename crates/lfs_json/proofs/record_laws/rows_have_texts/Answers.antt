use Rattle.lfs_json.proofs.RecordTextLemmas.{changes_have_texts, digests_have_texts, rows_have_texts}
use Rattle.lfs_json.proofs.record_laws.rows_have_texts.Goals as goal

pub returns-clause-rows : goal.returns-clause-rows
returns-clause-rows c = rows_have_texts

pub returns-clause-digests : goal.returns-clause-digests
returns-clause-digests c = digests_have_texts

pub returns-clause-changes : goal.returns-clause-changes
returns-clause-changes c = changes_have_texts
