-- Readings that agree along the thread of one of them are tidied alike.
use Rattle.std.proofs.Common.{◌≡◌, ℕ, ◌==◌, Bool, true, false, List, [], ◌∷◌, length, Option, Some}
use Rattle.std.proofs.Common.{refl, ap, sym, ◌∙◌, subst}
use Rattle.std.specs.Prelude.{Contains, ◌&&◌, ◌||◌, if◌then◌else◌}
use Rattle.std.specs.List.{list_all}
use Rattle.std.specs.Option.{is_none, option_map_or, option_or}
use Rattle.lfs_meta.specs.Body.{Pair}
use Rattle.lfs_meta.specs.Part.{StoredPart}
use Rattle.lfs_fs.specs.Pair.{root}
use Rattle.lfs_fs.specs.Front.{after, next_after, next_pair}
use Rattle.lfs_fs.specs.Gathering.{PairPart, delta_from}
use Rattle.lfs_fs.specs.Reading.{Reading}
use Rattle.lfs_fs.proofs.ContainsLemmas.{contains_first, contains_later}
use Rattle.lfs_lower.specs.OneSuperblock.{can_be_put}
use Rattle.lfs_lower.proofs.LongestFronts.{AgreeAt, steps_agree}
use Rattle.lfs_settle.specs.InStep.{has_thread, thread_pairs, thread_parts}
use Rattle.lfs_settle.specs.Settled.{can_hold, is_held, is_kept, part_among, with_parts}
use Rattle.lfs_settle.proofs.PartLists.{contains_of}
use Rattle.lfs_settle.proofs.ThreadParts.{held_pair}
use Rattle.lfs_adopt.specs.Tidied.{can_tidy, tidied, tidied_parts}
use Rattle.lfs_adopt.proofs.Filled.{tidied_of}
use Rattle.lfs_adopt.proofs.TidiedBlocks.{left, pairs_are, untidied_is}
use Rattle.lfs_adopt.proofs.TidiedImage.{pairs_agree, parts_agree}

after_alike : (step walk : Pair → Option Pair) (from : Option Pair) (ps : List Pair) → ((p : Pair) → Contains ps p → walk p ≡ step p)
    → after walk from ps ≡ after step from ps
after_alike step walk from [] same = refl
after_alike step walk from (p ∷ ps) same =
    ap (λ (o : Option Pair). after walk o ps) (same p (contains_first p ps))
    ∙ after_alike step walk (step p) ps (λ x there. same x (contains_later p ps x there))

all_alike : (f g : PairPart → Bool) (ps : List PairPart) → ((p : PairPart) → Contains ps p → g p ≡ f p) → list_all g ps ≡ list_all f ps
all_alike f g [] same = refl
all_alike f g (p ∷ ps) same =
    ap (λ (b : Bool). b && list_all g ps) (same p (contains_first p ps))
    ∙ ap (λ (b : Bool). f p && b) (all_alike f g ps (λ q there. same q (contains_later p ps q there)))

-- a part that stays is of a pair along the thread
left_along : (r : Reading) (q : PairPart) → Contains (left r) q → Contains (thread_pairs r) q.0
left_along r q there =
    let of = tidied_of (thread_parts r) q there in
    subst (λ (p : Pair). Contains (thread_pairs r) p) of.pair (held_pair r (thread_pairs r) of.part of.there)

-- and so is each along the tidied thread
along_by : (r : Reading) (t : Bool) → can_tidy r ≡ t → (p : Pair) → Contains (thread_pairs (tidied r)) p → Contains (thread_pairs r) p
along_by r true can p there =
    let q = contains_of (λ (x : PairPart). x.0) (left r) p (subst (λ (ps : List Pair). Contains ps p) (sym (pairs_are r can)) there) in
    subst (λ (x : Pair). Contains (thread_pairs r) x) q.2 (left_along r q.0 q.1)
along_by r false can p there = subst (λ (x : Reading). Contains (thread_pairs x) p) (untidied_is r can) there

pub along_before : (r : Reading) (p : Pair) → Contains (thread_pairs (tidied r)) p → Contains (thread_pairs r) p
along_before r p there = along_by r (can_tidy r) refl p there

module _ (r q : Reading) (size : q.size ≡ r.size) (count : q.count ≡ r.count) (agree : AgreeAt r q (thread_pairs r)) where
  same_pairs : thread_pairs q ≡ thread_pairs r
  same_pairs = pairs_agree r q count agree

  same_parts_along : thread_parts q ≡ thread_parts r
  same_parts_along = parts_agree r q count agree

  same_left : left q ≡ left r
  same_left = ap tidied_parts same_parts_along

  same_whole : has_thread q ≡ has_thread r
  same_whole =
      ap (λ (ps : List PairPart). (length ps == length (thread_pairs q)) && is_none (next_after q (thread_pairs q))) same_parts_along
      ∙ ap (λ (ps : List Pair). (length (thread_parts r) == length ps) && is_none (next_after q ps)) same_pairs
      ∙ ap (λ (o : Option Pair). (length (thread_parts r) == length (thread_pairs r)) && is_none o)
      (after_alike (next_pair r) (next_pair q) (Some root) (thread_pairs r) (steps_agree r q (thread_pairs r) agree))

  same_can_hold : (p : PairPart) → Contains (left r) p → can_hold q p ≡ can_hold r p
  same_can_hold p there =
      ap (λ (o : Option StoredPart). option_map_or (is_kept p.1) o false || can_be_put q.size q.count p.1)
      (agree p.0 (left_along r p there))
      ∙ ap (λ (n : ℕ). is_held r p || can_be_put n q.count p.1) size
      ∙ ap (λ (n : ℕ). is_held r p || can_be_put r.size n p.1) count

  same_can : can_tidy q ≡ can_tidy r
  same_can =
      ap (λ (b : Bool). b && (delta_from (thread_parts q) == 0) && list_all (λ p. can_hold q p) (left q)) same_whole
      ∙ ap (λ (ps : List PairPart). has_thread r && (delta_from ps == 0) && list_all (λ p. can_hold q p) (tidied_parts ps)) same_parts_along
      ∙ ap (λ (b : Bool). has_thread r && (delta_from (thread_parts r) == 0) && b)
      (all_alike (λ p. can_hold r p) (λ p. can_hold q p) (left r) same_can_hold)

  same_by : (t : Bool) (p : Pair) → q.part p ≡ r.part p
      → (if t then with_parts q (left q) else q).part p ≡ (if t then with_parts r (left r) else r).part p
  same_by true p same =
      ap (λ (ps : List PairPart). option_or (part_among ps p) (q.part p)) same_left
      ∙ ap (λ (o : Option StoredPart). option_or (part_among (left r) p) o) same
  same_by false p same = same

  pub tidied_agree : AgreeAt (tidied r) (tidied q) (thread_pairs (tidied r))
  tidied_agree p there =
      ap (λ (b : Bool). (if b then with_parts q (left q) else q).part p) same_can
      ∙ same_by (can_tidy r) p (agree p (along_before r p there))
