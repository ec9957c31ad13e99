use Rattle.lfs_adopt.proofs.Filled.{tidied_have_entries, tidied_linked, tidied_names, tidied_no_state}
use Rattle.lfs_adopt.proofs.laws.tidied_parts_have_entries.Goals as goal

pub returns-clause-entries : goal.returns-clause-entries
returns-clause-entries c = tidied_have_entries

pub returns-clause-no_state : goal.returns-clause-no_state
returns-clause-no_state c = tidied_no_state

pub returns-clause-linked : goal.returns-clause-linked
returns-clause-linked c = tidied_linked

pub returns-clause-named : goal.returns-clause-named
returns-clause-named c = tidied_names
