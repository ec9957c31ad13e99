-- The laws of images whose parts aren't written yet.
use Rattle.lfs_pack.proofs.BareUnwritten.{erased_are_unwritten}
use Rattle.lfs_pack.proofs.FinishedVolumes.{unwritten_can_be_finished}
use Rattle.lfs_pack.proofs.GoingOn.{commands_go_on}
use Rattle.lfs_pack.proofs.image_laws.unwritten_images_go_on.Goals as goal

pub returns-clause-begin : goal.returns-clause-begin
returns-clause-begin c = erased_are_unwritten

pub returns-clause-go_on : goal.returns-clause-go_on
returns-clause-go_on c = commands_go_on (record {
  cuts = c.cuts_follow.ensures.cut;
  cleans = c.cuts_follow.ensures.clean;
  after = c.free_after.ensures.uses;
  join = c.entries_are_cut_greedily.ensures.joined;
  stay = c.chains_stay_on_their_blocks.ensures.found;
  content = c.chains_stay_on_their_blocks.ensures.content;
  laid_found = c.laid_blocks_are_chains.ensures.found;
  laid_content = c.laid_blocks_are_chains.ensures.content;
})

pub returns-clause-finish : goal.returns-clause-finish
returns-clause-finish c =
    unwritten_can_be_finished c.outlines_are_sound.ensures c.sound_outlines_can_be_taken.ensures c.new_images_hold.ensures
