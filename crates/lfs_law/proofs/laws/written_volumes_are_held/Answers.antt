use Rattle.lfs_law.proofs.WrittenLemmas.{written_are_held, held_are_clean}
use Rattle.lfs_law.proofs.laws.written_volumes_are_held.Goals as goal

pub returns-clause-held : goal.returns-clause-held
returns-clause-held c = written_are_held c.parts_depend_on_their_blocks.ensures c.chains_stay_on_their_blocks.ensures.found
    c.chains_stay_on_their_blocks.ensures.content
    c.stored_links_stay.ensures.alike c.stored_links_stay.ensures.elsewhere

pub returns-clause-clean : goal.returns-clause-clean
returns-clause-clean c = held_are_clean
