-- Beside an erased block the new one is live, and its tags are the part.
use Rattle.std.proofs.Common.{refl, arith, replicate}
use Rattle.lfs_meta.specs.Part.{StoredPart}
use Rattle.lfs_pair.specs.Spelling.{part_tags}
use Rattle.lfs_pair.specs.Writing.{stored_part}
use Rattle.lfs_pair.proofs.LiveAfter.{live_after, live_before, read-back}
use Rattle.lfs_pair.proofs.LogLemmas.{erased-uncommitted}
use Rattle.lfs_pair.proofs.writing.first_block.Goals as goal

pub returns : goal.returns
returns c =
    let p : StoredPart = stored_part c.args.entries.now c.args.tail (replicate 12 0) in
    let block = c.in-Ok.block.items in
    let written = c.in-Ok.ensures.written in
    let none = erased-uncommitted c.erased_block.ensures c.log_is_read.ensures c.args.size (omega (arith, c.requires.size.0)) in
    record {
      bytes = written.bytes;
      len = written.len;
      before_erased =
          read-back c.written_parts_replay.ensures.replay c.written_parts_replay.ensures.complete p block (replicate c.args.size 255)
          c.in-Ok.ensures.fits c.requires.few c.requires.tail refl c.requires.complete
          (live_before block (replicate c.args.size 255) (part_tags p) written.held none);
      behind_erased =
          read-back c.written_parts_replay.ensures.replay c.written_parts_replay.ensures.complete p (replicate c.args.size 255) block
          c.in-Ok.ensures.fits c.requires.few c.requires.tail refl c.requires.complete
          (live_after block (replicate c.args.size 255) (part_tags p) written.held none);
    }
