-- One block of the pair is changed.
use Rattle.lfs_block.specs.Disk.{Disk}
use Rattle.lfs_pair.specs.DifferenceSeen.{forced_seen}
use Rattle.lfs_command.specs.PartWritten.{Found}
use Rattle.lfs_law.proofs.BlockLemmas.{one_below}
use Rattle.lfs_write.proofs.PairWrites.{block_is_one, one_free, pair_changed, pair_written}
use Rattle.lfs_write.proofs.link_writing.change_part.Goals as goal

pub add_change-requires-clause-within : goal.add_change-requires-clause-within
add_change-requires-clause-within g c =
    let part : Found = c.args.part.now in
    one_below part.0 c.in_ok-number.number (block_is_one (g.B.Blocks.disk c.args.image.now) c.args.is_cut (forced_seen c.args.forced) part _ _ c.in_ok-number.ensures)
    c.requires.fits.first c.requires.fits.second

pub add_change-requires-clause-free : goal.add_change-requires-clause-free
add_change-requires-clause-free g c =
    let d : Disk = g.B.Blocks.disk c.args.image.now in
    let part : Found = c.args.part.now in
    one_free d part.0 c.in_ok-number.number c.args.changes.now.items
    (block_is_one d c.args.is_cut (forced_seen c.args.forced) part _ _ c.in_ok-number.ensures) c.requires.free

pub returns-clause-adds : goal.returns-clause-adds
returns-clause-adds g c =
    let d : Disk = g.B.Blocks.disk c.args.image.now in
    let part : Found = c.args.part.now in
    let is = block_is_one d c.args.is_cut (forced_seen c.args.forced) part _ _ c.in_ok-number.ensures in
    pair_changed c.put_blocks_stand.ensures.block c.put_blocks_stand.ensures.others d c.size-size.ensures.disk part.0 c.in_ok-number.number
    c.in_ok-number.new.items part.1 c.args.changes.now.items c.add_change.new.changes.items c.requires.fits.apart is
    (one_below part.0 c.in_ok-number.number is c.requires.fits.first c.requires.fits.second) c.in_ok-number.ensures.len
    c.in_ok-number.ensures.reads_back c.requires.free c.in_ok-add_change.ensures

pub returns-clause-changed : goal.returns-clause-changed
returns-clause-changed g c =
    pair_written (g.B.Blocks.disk c.args.image.now) c.args.is_cut (forced_seen c.args.forced) c.args.part.now c.in_ok-number.number c.in_ok-number.new.items
    c.args.changes.now.items c.add_change.new.changes.items c.requires.fits.apart c.in_ok-number.ensures c.requires.free
    c.in_ok-add_change.ensures (returns-clause-adds g c).back
