use Rattle.lfs_law.proofs.TablesTell.{tables_tell_changed, tables_tell_new}
use Rattle.lfs_law.proofs.written_laws.tables_tell_new_pairs.Goals as goal

pub returns-clause-new : goal.returns-clause-new
returns-clause-new c = tables_tell_new

pub returns-clause-changed : goal.returns-clause-changed
returns-clause-changed c = tables_tell_changed
