-- A settled image holds what version 2.1 reads in the other one once it is settled, and one that is joined then what a device reads.
use Rattle.std.proofs.Common.{Bool, true, false, List, refl}
use Rattle.std.specs.Prelude.{if◌then◌else◌}
use Rattle.lfs_block.specs.Disk.{Disk}
use Rattle.lfs_fs.specs.Gathering.{PairPart}
use Rattle.lfs_fs.specs.Reading.{Reading}
use Rattle.lfs_lower.specs.Anew.{IsSpelledAnew, ReadsBlocks}
use Rattle.lfs_lower.specs.LaterReading.{later_reading_of}
use Rattle.lfs_lower.specs.OneSuperblock.{one_superblock}
use Rattle.lfs_lower.proofs.HeldAnew.{LawsBelow, spelled_anew_hold}
use Rattle.lfs_lower.proofs.JoinedHeld.{joined_is_anew, reads_one}
use Rattle.lfs_settle.specs.InStep.{in_step, thread_pairs, thread_parts}
use Rattle.lfs_settle.specs.Laws.{SettledImagesHoldWhatIsRead}
use Rattle.lfs_settle.specs.Relaid.{RelaidImagesHoldWhatIsRead}
use Rattle.lfs_settle.specs.Settled.{IsSettledImage, can_settle, settled, settled_parts, settled_reading_of, with_parts}
use Rattle.lfs_settle.proofs.ThreadPairs.{thread_is_ended, thread_is_front}

-- ---- only parts differ

pub reads_by : (d : Disk) (t : Bool) (r : Reading) (ps : List PairPart) → ReadsBlocks d r → ReadsBlocks d (if t then with_parts r ps else r)
reads_by d true r ps reads = record { size = reads.size; count = reads.count; chain = reads.chain; content = reads.content }
reads_by d false r ps reads = reads

reads_settled : (d : Disk) (r : Reading) → ReadsBlocks d r → ReadsBlocks d (settled r)
reads_settled d r reads = reads_by d (can_settle r (in_step r)) r (settled_parts (thread_parts (in_step r))) reads

pub settled_reads : (d : Disk) → ReadsBlocks d (settled_reading_of d)
settled_reads d = reads_settled d (later_reading_of d) (record { size = refl; count = refl; chain = refl; content = refl })

-- ---- a settled image is spelled anew

settled_is_anew : (d e : Disk) → IsSettledImage d e → IsSpelledAnew d (settled_reading_of d) e
settled_is_anew d e is = record {
  disk = is.disk;
  size = is.size;
  count = is.count;
  front = thread_pairs (settled_reading_of d);
  is_front = thread_is_front (settled_reading_of d);
  longest = thread_is_ended (settled_reading_of d);
  held = is.held;
  others = is.others;
}

pub settled_images_hold : LawsBelow → SettledImagesHoldWhatIsRead
settled_images_hold laws d e v disk is sound =
    spelled_anew_hold laws d (settled_reading_of d) e v disk (settled_reads d) (settled_is_anew d e is) sound

-- and so is one that is joined then
pub relaid_images_hold : LawsBelow → RelaidImagesHoldWhatIsRead
relaid_images_hold laws d f v disk is sound =
    let read : Reading = settled_reading_of d in
    spelled_anew_hold laws d (one_superblock read) f v disk (reads_one d read (settled_reads d))
    (joined_is_anew d read is.between f (settled_reads d) (settled_is_anew d is.between is.settled) is.joined) sound
