-- A command's change comes last.
use Rattle.lfs_history.proofs.GrowthLemmas.{journal_grows, kept_journal_grows}
use Rattle.lfs_history.proofs.NeedsLemmas.{journal_grows_by_all, kept_journal_grows_by_all}
use Rattle.lfs_history.proofs.laws.journals_grow_by_the_need.Goals as goal

pub returns-clause-complete : goal.returns-clause-complete
returns-clause-complete c =
    journal_grows c.need_is_exact.ensures.few c.written_volumes_are_held.ensures.clean c.both_sides_hold.ensures.links

pub returns-clause-kept : goal.returns-clause-kept
returns-clause-kept c =
    kept_journal_grows c.need_is_exact.ensures.few c.written_volumes_are_held.ensures.clean c.both_sides_hold.ensures.links

pub returns-clause-together : goal.returns-clause-together
returns-clause-together c =
    journal_grows_by_all (record {
      parts = c.need_is_exact.ensures.few;
      clean = c.written_volumes_are_held.ensures.clean;
      links = c.both_sides_hold.ensures.links;
      short = c.joints_are_short.ensures.all;
      one = c.commands_are_made_together.ensures.one_by_one;
    })

pub returns-clause-together_kept : goal.returns-clause-together_kept
returns-clause-together_kept c =
    kept_journal_grows_by_all (record {
      parts = c.need_is_exact.ensures.few;
      clean = c.written_volumes_are_held.ensures.clean;
      links = c.both_sides_hold.ensures.links;
      short = c.joints_are_short.ensures.all;
      one = c.commands_are_made_together.ensures.one_by_one;
    })
