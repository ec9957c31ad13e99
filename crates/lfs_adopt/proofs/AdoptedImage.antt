-- An image taken over: the old one, of which the thread that a device reads, tidied, is written anew.
use Rattle.std.proofs.Common.{◌≡◌, inl, inr, ℕ, ◌<◌, Bool, List}
use Rattle.std.proofs.Common.{ap, sym, ◌∙◌, subst, arith}
use Rattle.std.specs.Prelude.{Contains}
use Rattle.std.proofs.lemmas.Bool.{cases_lt}
use Rattle.lfs_block.specs.Disk.{Disk, IsDisk, block_of}
use Rattle.lfs_meta.specs.Body.{Pair}
use Rattle.lfs_meta.specs.Laws.{PartsDependOnTheirBlocks}
use Rattle.lfs_fs.specs.Front.{pairs_name}
use Rattle.lfs_fs.specs.Reading.{reading_of}
use Rattle.lfs_lower.specs.Alone.{IsSame}
use Rattle.lfs_lower.specs.Anew.{IsSpelledAnew}
use Rattle.lfs_lower.proofs.HeldAnew.{LawsBelow, spelled_anew_hold}
use Rattle.lfs_lower.proofs.LongestFronts.{pairs_name_both}
use Rattle.lfs_settle.specs.InStep.{thread_pairs}
use Rattle.lfs_settle.specs.Relaid.{device_reading_of}
use Rattle.lfs_settle.proofs.ThreadPairs.{thread_is_ended, thread_is_front}
use Rattle.lfs_adopt.specs.Adopted.{AdoptedImagesHoldWhatIsAdopted, AdoptedImagesKeepTheTree, IsAdoptedImage, adopted_reading_of}
use Rattle.lfs_adopt.specs.Rewritten.{AreFlagged, AreTaken, IsRewrittenImage}
use Rattle.lfs_adopt.proofs.PastTheEnd.{past_the_end}
use Rattle.lfs_adopt.proofs.TidiedTree.{tidied_keep}
use Rattle.lfs_adopt.proofs.RewrittenImage.{adopted_reads, carried_on, rewritten_agree, rewritten_alone, rewritten_thread}

-- ---- the image that takes the blocks of the rewritten one's thread

module _ (depend : PartsDependOnTheirBlocks) (d t e : Disk) (flags : List Bool) (disk : IsDisk d) (is : IsRewrittenImage d t)
    (flagged : AreFlagged t.count (thread_pairs (reading_of t)) flags) (given : AreTaken d t e flags d.count) where
  size_is : t.size ≡ d.size
  size_is = is.tidied.size ∙ is.relaid.joined.size ∙ is.relaid.settled.size

  count_is : t.count ≡ d.count
  count_is = is.tidied.count ∙ is.relaid.joined.count ∙ is.relaid.settled.count

  kept : (b : ℕ) → 0 < pairs_name b (thread_pairs (adopted_reading_of d)) → block_of e b ≡ block_of t b
  kept b some = elim (cases_lt b d.count) [
    | inl below ↦
        given.flagged b below
        (flagged.named b (subst (λ (ps : List Pair). 0 < pairs_name b ps) (sym (rewritten_thread d t is)) some))
    | inr past ↦
        past_the_end e b given.disk (omega (arith, past, given.count)) ∙ sym (past_the_end t b is.tidied.disk (omega (arith, past, count_is)))
  ]

  pair_kept : (p : Pair) → Contains (thread_pairs (adopted_reading_of d)) p → IsSame t e p
  pair_kept p there =
      let named = pairs_name_both (thread_pairs (adopted_reading_of d)) p there in
      (kept p.0 named.0, kept p.1 named.1)

  pub adopted_image : IsAdoptedImage d e
  adopted_image = record {
    disk = given.disk;
    size = given.size;
    count = given.count;
    held = λ p there. (depend e t p (pair_kept p there)).2 ∙ rewritten_agree d t is p there;
    alone = λ p there. carried_on d t e p (given.size ∙ sym size_is) (inl (pair_kept p there)) (rewritten_alone d t is p there);
    others = λ b none. given.unflagged b (flagged.unnamed b (ap (pairs_name b) (rewritten_thread d t is) ∙ none));
  }

-- ---- the laws

adopted_is_anew : (d e : Disk) → IsAdoptedImage d e → IsSpelledAnew d (adopted_reading_of d) e
adopted_is_anew d e is = record {
  disk = is.disk;
  size = is.size;
  count = is.count;
  front = thread_pairs (adopted_reading_of d);
  is_front = thread_is_front (adopted_reading_of d);
  longest = thread_is_ended (adopted_reading_of d);
  held = is.held;
  others = is.others;
}

pub adopted_images_hold : LawsBelow → AdoptedImagesHoldWhatIsAdopted
adopted_images_hold laws d e v disk is sound =
    spelled_anew_hold laws d (adopted_reading_of d) e v disk (adopted_reads d) (adopted_is_anew d e is) sound

pub adopted_images_keep : LawsBelow → AdoptedImagesKeepTheTree
adopted_images_keep laws d e v disk is sound h =
    let kept = tidied_keep (device_reading_of d) v sound h in
    record {
      volume = kept.volume;
      holds = (adopted_images_hold laws d e kept.volume disk is kept.sound).1 kept.holds;
      sound = kept.sound;
      same = kept.same;
    }
