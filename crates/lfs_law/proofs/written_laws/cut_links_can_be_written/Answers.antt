use Rattle.lfs_law.proofs.CutLinksFit.{cut_links_can_be_written}
use Rattle.lfs_law.proofs.FreshPairs.{new_pairs_are_fresh, cut_links_can_be_added}
use Rattle.lfs_law.proofs.written_laws.cut_links_can_be_written.Goals as goal

pub returns-clause-written : goal.returns-clause-written
returns-clause-written c = cut_links_can_be_written c.names_are_decided.ensures c.cuts_follow.ensures.cut

pub returns-clause-fresh : goal.returns-clause-fresh
returns-clause-fresh c = new_pairs_are_fresh c.commands_follow.ensures

pub returns-clause-added : goal.returns-clause-added
returns-clause-added c =
    cut_links_can_be_added (cut_links_can_be_written c.names_are_decided.ensures c.cuts_follow.ensures.cut)
    (new_pairs_are_fresh c.commands_follow.ensures)
