-- What is sound in an image that is taken over keeps its tree, also if it was taken over before.
use Rattle.std.proofs.Common.{◌≡◌, List, map, refl, sym, ◌∙◌, subst}
use Rattle.std.specs.Prelude.{Contains}
use Rattle.lfs_block.specs.Disk.{Disk, IsDisk}
use Rattle.lfs_meta.specs.Body.{Pair}
use Rattle.lfs_fs.specs.Directory.{thread}
use Rattle.lfs_fs.specs.Holds.{Holds}
use Rattle.lfs_fs.specs.Reading.{reading_of}
use Rattle.lfs_fs.specs.Sound.{IsSound}
use Rattle.lfs_fs.specs.Volume.{Volume}
use Rattle.lfs_lower.specs.Joined.{OneSuperblockStays}
use Rattle.lfs_lower.specs.LaterReading.{later_reading_of}
use Rattle.lfs_lower.proofs.HeldAnew.{LawsBelow, held_along, reads_itself}
use Rattle.lfs_settle.specs.InStep.{thread_pairs}
use Rattle.lfs_settle.specs.Laws.{SettledStays}
use Rattle.lfs_settle.specs.Settled.{settled_reading_of}
use Rattle.lfs_settle.proofs.ThreadPairs.{thread_found}
use Rattle.lfs_adopt.specs.Adopted.{AdoptedOnce, BothReadTheSame, SoundVolumesKeepTheTree}
use Rattle.lfs_adopt.specs.Laws.{HasTheTreeOf}
use Rattle.lfs_adopt.proofs.AdoptedImage.{adopted_images_keep}

-- what is read in version 2.0 is read in version 2.1
later_holds : LawsBelow → (e : Disk) (v : Volume) → IsDisk e → BothReadTheSame e → IsSound v → Holds (reading_of e) v
    → Holds (later_reading_of e) v
later_holds laws e v disk same sound h =
    let pairs : map (λ p. p.pair) (thread v.directories) ≡ thread_pairs (reading_of e) =
    sym (laws.pairs (reading_of e) v h) ∙ thread_found (reading_of e) h.pairs h.is_thread in
    held_along laws e e (reading_of e) (later_reading_of e) v sound
    (record {
      disk = disk;
      reads = reads_itself e;
      reads_other = record { size = refl; count = refl; chain = refl; content = refl };
      size = refl;
      count = refl;
      agree = λ p there. same p (subst (λ (ps : List Pair). Contains ps p) pairs there);
      others = λ b none. refl;
    })
    h

-- a volume has the tree of one that has the tree of another
tree_again : (u v w : Volume) → HasTheTreeOf u v → HasTheTreeOf v w → HasTheTreeOf u w
tree_again u v w first second = record {
  at = λ path. second.at path ∙ first.at path;
  size = second.size ∙ first.size;
  count = second.count ∙ first.count;
  limits = second.limits ∙ first.limits;
  attributes = second.attributes ∙ first.attributes;
}

module _ (laws : LawsBelow) (settled : SettledStays) (one : OneSuperblockStays) where
  pub sound_keep : SoundVolumesKeepTheTree
  sound_keep d e v disk is sound h =
      adopted_images_keep laws d e v disk is sound (one (settled_reading_of d) v (settled (later_reading_of d) v sound h))

  pub again_keep : AdoptedOnce
  again_keep d e f v disk is again same sound h =
      let first = adopted_images_keep laws d e v disk is sound h in
      let second = sound_keep e f first.volume is.disk again first.sound
      (later_holds laws e first.volume is.disk same first.sound first.holds) in
      record {
        volume = second.volume;
        holds = second.holds;
        sound = second.sound;
        same = tree_again v first.volume second.volume first.same second.same;
      }
