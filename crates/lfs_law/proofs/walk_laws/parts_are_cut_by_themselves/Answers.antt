use Rattle.lfs_law.proofs.PartsCutLemmas.{directories_are_cut_by_part, links_are_cut_by_link}
use Rattle.lfs_law.proofs.walk_laws.parts_are_cut_by_themselves.Goals as goal

pub returns-clause-parts : goal.returns-clause-parts
returns-clause-parts c = directories_are_cut_by_part

pub returns-clause-links : goal.returns-clause-links
returns-clause-links c = links_are_cut_by_link
