use Rattle.lfs_law.proofs.LinksAdded.{links_are_added, links_are_free, links_are_left, no_links_are_written}
use Rattle.lfs_law.proofs.written_laws.links_are_written_in_turn.Goals as goal

pub returns-clause-added : goal.returns-clause-added
returns-clause-added c = links_are_added

pub returns-clause-left : goal.returns-clause-left
returns-clause-left c = links_are_left

pub returns-clause-free : goal.returns-clause-free
returns-clause-free c = links_are_free

pub returns-clause-none : goal.returns-clause-none
returns-clause-none c = no_links_are_written
