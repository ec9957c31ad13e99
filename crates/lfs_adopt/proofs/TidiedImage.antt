-- A tidied image holds what is read in the other one once it is tidied.
use Rattle.std.proofs.Common.{◌≡◌, ℕ, true, List, [], ◌∷◌, Some, refl, ap, sym, ◌∙◌}
use Rattle.std.specs.Prelude.{Contains}
use Rattle.lfs_block.specs.Disk.{Disk}
use Rattle.lfs_fs.specs.Pair.{root}
use Rattle.lfs_fs.specs.Front.{next_pair, tail_of}
use Rattle.lfs_fs.specs.Gathering.{PairPart}
use Rattle.lfs_fs.specs.Reading.{Reading, reading_of}
use Rattle.lfs_fs.proofs.ContainsLemmas.{contains_first, contains_later}
use Rattle.lfs_lower.specs.Anew.{IsSpelledAnew, ReadsBlocks}
use Rattle.lfs_lower.specs.Joining.{parts_held}
use Rattle.lfs_lower.specs.OneSuperblock.{pairs_along}
use Rattle.lfs_lower.proofs.GatheredParts.{held_some}
use Rattle.lfs_lower.proofs.HeldAnew.{LawsBelow, reads_itself, spelled_anew_hold}
use Rattle.lfs_lower.proofs.LongestFronts.{AgreeAt}
use Rattle.lfs_lower.proofs.PairsAlong.{along_alike}
use Rattle.lfs_lower.proofs.PartsPut.{pairs_in}
use Rattle.lfs_settle.specs.InStep.{thread_pairs, thread_parts}
use Rattle.lfs_settle.specs.Settled.{with_parts}
use Rattle.lfs_settle.proofs.SettledBlocks.{has_part}
use Rattle.lfs_settle.proofs.SettledImage.{reads_by}
use Rattle.lfs_settle.proofs.ThreadPairs.{thread_is_ended, thread_is_front}
use Rattle.lfs_settle.proofs.ThreadParts.{held_alike}
use Rattle.lfs_adopt.specs.Laws.{TidiedImagesHaveTheParts, TidiedImagesHoldWhatIsTidied}
use Rattle.lfs_adopt.specs.Tidied.{IsTidiedImage, can_tidy, tidied, tidied_parts}
use Rattle.lfs_adopt.proofs.TidiedBlocks.{left, left_once, pairs_are, tidied_is}

tidied_reads : (d : Disk) → ReadsBlocks d (tidied (reading_of d))
tidied_reads d = reads_by d (can_tidy (reading_of d)) (reading_of d) (tidied_parts (thread_parts (reading_of d))) (reads_itself d)

tidied_is_anew : (d e : Disk) → IsTidiedImage d e → IsSpelledAnew d (tidied (reading_of d)) e
tidied_is_anew d e is = record {
  disk = is.disk;
  size = is.size;
  count = is.count;
  front = thread_pairs (tidied (reading_of d));
  is_front = thread_is_front (tidied (reading_of d));
  longest = thread_is_ended (tidied (reading_of d));
  held = is.held;
  others = is.others;
}

pub tidied_images_hold : LawsBelow → TidiedImagesHoldWhatIsTidied
tidied_images_hold laws d e v disk is sound =
    spelled_anew_hold laws d (tidied (reading_of d)) e v disk (tidied_reads d) (tidied_is_anew d e is) sound

-- ---- the parts along the thread

-- what pairs hold that hold these parts
held_are : (r : Reading) (ps : List PairPart) → ((q : PairPart) → Contains ps q → r.part q.0 ≡ Some q.1) → parts_held r (pairs_in ps) ≡ ps
held_are r [] all = refl
held_are r (p ∷ ps) all =
    held_some r p.0 (pairs_in ps) p.1 (all p (contains_first p ps))
    ∙ ap (λ (xs : List PairPart). p ∷ xs) (held_are r ps (λ q there. all q (contains_later p ps q there)))

-- readings of one count that agree along the thread of one of them have the same thread
pub pairs_agree : (r q : Reading) → q.count ≡ r.count → AgreeAt r q (thread_pairs r) → thread_pairs q ≡ thread_pairs r
pairs_agree r q count agree =
    ap (λ (n : ℕ). pairs_along (next_pair q) n [] n (Some root)) count
    ∙ along_alike (next_pair r) (next_pair q) r.count [] r.count (Some root) (λ p there. ap tail_of (agree p there))

pub parts_agree : (r q : Reading) → q.count ≡ r.count → AgreeAt r q (thread_pairs r) → thread_parts q ≡ thread_parts r
parts_agree r q count agree =
    ap (parts_held q) (pairs_agree r q count agree) ∙ held_alike r q (thread_pairs r) agree

tidied_along : (r : Reading) → can_tidy r ≡ true → thread_parts (tidied r) ≡ left r
tidied_along r can =
    ap (parts_held (tidied r)) (sym (pairs_are r can))
    ∙ ap (λ (x : Reading). parts_held x (pairs_in (left r))) (tidied_is r can)
    ∙ held_are (with_parts r (left r)) (left r) (has_part r (left r) (left_once r))

pub tidied_images_have : TidiedImagesHaveTheParts
tidied_images_have d e is can =
    parts_agree (tidied (reading_of d)) (reading_of e) (is.count ∙ sym (tidied_reads d).count) is.held
    ∙ tidied_along (reading_of d) can
