-- An image that is settled, joined and tidied holds what a device reads in the old one, tidied.
use Rattle.std.proofs.Common.{◌≡◌, ◌⊎◌, inl, inr, ℕ, ◌+◌, ◌<◌, Bool, true, false, List, [], Option, Some, None}
use Rattle.std.proofs.Common.{refl, ap, sym, ◌∙◌, subst, arith, append-nil}
use Rattle.std.specs.Prelude.{Contains, option_map}
use Rattle.std.proofs.lemmas.List.Elements.{Contains-append_cases}
use Rattle.std.proofs.lemmas.List.Sums.{sum_by-append}
use Rattle.lfs_block.specs.Disk.{Disk}
use Rattle.lfs_meta.specs.Body.{Pair}
use Rattle.lfs_meta.specs.Entry.{StoredEntry}
use Rattle.lfs_meta.specs.Part.{StoredPart}
use Rattle.lfs_fs.specs.Pair.{root}
use Rattle.lfs_fs.specs.Front.{Begins, IsFront, next_pair, pair_names, pairs_name, tail_of}
use Rattle.lfs_fs.specs.Reading.{Reading, reading_of}
use Rattle.lfs_fs.specs.Thread.{next}
use Rattle.lfs_fs.proofs.FrontLemmas.{fronts_begin_each_other}
use Rattle.lfs_lower.specs.Alone.{IsAlone, IsLeft, IsSame}
use Rattle.lfs_lower.specs.Anew.{IsSpelledAnew, ReadsBlocks}
use Rattle.lfs_lower.specs.OneSuperblock.{can_join, last_superblock, one_superblock, part_as_one, part_joined, superblock_pairs}
use Rattle.lfs_lower.proofs.AloneBlocks.{alone_on}
use Rattle.lfs_lower.proofs.HeldAnew.{reads_itself}
use Rattle.lfs_lower.proofs.JoinedHeld.{joined_is_anew, reads_one}
use Rattle.lfs_lower.proofs.LongestFronts.{AgreeAt, IsLongest, longest_is, pairs_name_both}
use Rattle.lfs_lower.proofs.PairsAlong.{along_alike, superblock_pairs_are_front}
use Rattle.lfs_settle.specs.InStep.{thread_pairs}
use Rattle.lfs_settle.specs.Relaid.{device_reading_of}
use Rattle.lfs_settle.specs.Settled.{IsSettledImage, settled_reading_of}
use Rattle.lfs_settle.proofs.SettledImage.{reads_by, settled_reads}
use Rattle.lfs_settle.proofs.ThreadPairs.{thread_is_ended, thread_is_front}
use Rattle.lfs_adopt.specs.Adopted.{adopted_reading_of}
use Rattle.lfs_adopt.specs.Rewritten.{IsRewrittenImage}
use Rattle.lfs_adopt.specs.Tidied.{can_tidy, tidied}
use Rattle.lfs_adopt.proofs.TidiedBlocks.{left}
use Rattle.lfs_adopt.proofs.TidiedImage.{pairs_agree}
use Rattle.lfs_adopt.proofs.TidiedAlike.{along_before, tidied_agree}

-- ---- the longest front is the thread

longest_is_thread : (r : Reading) (front : List Pair) → IsFront r front → IsLongest r front → front ≡ thread_pairs r
longest_is_thread r front is longest =
    elim (fronts_begin_each_other r front (thread_pairs r) is (thread_is_front r)) [
      | inl begins ↦ sym (longest_is r front (thread_pairs r) longest (thread_is_front r) begins)
      | inr begins ↦ longest_is r (thread_pairs r) front (thread_is_ended r) is begins
    ]

-- the superblocks' pairs begin the thread
superblocks_begin : (r : Reading) → Begins (superblock_pairs r) (thread_pairs r)
superblocks_begin r =
    elim (fronts_begin_each_other r (superblock_pairs r) (thread_pairs r) (superblock_pairs_are_front r) (thread_is_front r)) [
      | inl begins ↦ begins
      | inr begins ↦ (
        [],
        sym (longest_is r (thread_pairs r) (superblock_pairs r) (thread_is_ended r) (superblock_pairs_are_front r) begins)
            ∙ sym (append-nil (superblock_pairs r)),
      )
    ]

-- ---- one superblock leaves the thread

tail_same : (can : Bool) (pairs : List Pair) (last : Option StoredEntry) (p : Pair) (s : StoredPart)
    → next (part_joined can pairs last p s).tail ≡ next s.tail
tail_same true pairs last p s = refl
tail_same false pairs last p s = refl

step_same : (r : Reading) (p : Pair) (o : Option StoredPart) → tail_of (option_map (part_as_one r p) o) ≡ tail_of o
step_same r p None = refl
step_same r p (Some s) = tail_same (can_join r (superblock_pairs r) (last_superblock r)) (superblock_pairs r) (last_superblock r) p s

pairs_of_one : (r : Reading) → thread_pairs (one_superblock r) ≡ thread_pairs r
pairs_of_one r =
    along_alike (next_pair r) (next_pair (one_superblock r)) r.count [] r.count (Some root) (λ p there. step_same r p (r.part p))

-- ---- pairs of which no older state can be taken

left_on : (d x y : Disk) (p : Pair) → IsSame x y p → IsLeft d x p → IsLeft d y p
left_on d x y p same is = record {
  first_plain = is.first_plain;
  second_plain = is.second_plain;
  same = (same.0 ∙ is.same.0, same.1 ∙ is.same.1);
}

-- what holds after one step holds after the next
pub carried_on : (d x y : Disk) (p : Pair) → y.size ≡ x.size → IsSame x y p ⊎ IsAlone y p → IsLeft d x p ⊎ IsAlone x p
    → IsLeft d y p ⊎ IsAlone y p
carried_on d x y p size (inr alone) before = inr alone
carried_on d x y p size (inl same) (inl is) = inl (left_on d x y p same is)
carried_on d x y p size (inl same) (inr alone) = inr (alone_on x y p size same alone)

-- ---- what is read

pub adopted_reads : (d : Disk) → ReadsBlocks d (adopted_reading_of d)
adopted_reads d =
    reads_by d (can_tidy (device_reading_of d)) (device_reading_of d) (left (device_reading_of d))
    (reads_one d (settled_reading_of d) (settled_reads d))

tidied_count : (d : Disk) → (tidied (reading_of d)).count ≡ d.count
tidied_count d = (reads_by d (can_tidy (reading_of d)) (reading_of d) (left (reading_of d)) (reads_itself d)).count

settled_is_anew : (d m : Disk) → IsSettledImage d m → IsSpelledAnew d (settled_reading_of d) m
settled_is_anew d m is = record {
  disk = is.disk;
  size = is.size;
  count = is.count;
  front = thread_pairs (settled_reading_of d);
  is_front = thread_is_front (settled_reading_of d);
  longest = thread_is_ended (settled_reading_of d);
  held = is.held;
  others = is.others;
}

-- ---- the image that is settled, joined and tidied

module _ (d t : Disk) (is : IsRewrittenImage d t) where
  abbrev settled_one : Disk
  settled_one = is.relaid.between

  abbrev joined_one : Disk
  joined_one = is.between

  -- how a device reads the old image
  abbrev by_device : Reading
  by_device = device_reading_of d

  abbrev read_tidied : Reading
  read_tidied = adopted_reading_of d

  joined_anew : IsSpelledAnew d by_device joined_one
  joined_anew =
      joined_is_anew d (settled_reading_of d) settled_one joined_one (settled_reads d)
      (settled_is_anew d settled_one is.relaid.settled) is.relaid.joined

  front_is : joined_anew.front ≡ thread_pairs by_device
  front_is = longest_is_thread by_device joined_anew.front joined_anew.is_front joined_anew.longest

  joined_agree : AgreeAt by_device (reading_of joined_one) (thread_pairs by_device)
  joined_agree p there = joined_anew.held p (subst (λ (ps : List Pair). Contains ps p) (sym front_is) there)

  both_agree : AgreeAt read_tidied (tidied (reading_of joined_one)) (thread_pairs read_tidied)
  both_agree =
      tidied_agree by_device (reading_of joined_one) (joined_anew.size ∙ sym (settled_reads d).size)
      (joined_anew.count ∙ sym (settled_reads d).count) joined_agree

  both_threads : thread_pairs (tidied (reading_of joined_one)) ≡ thread_pairs read_tidied
  both_threads =
      pairs_agree read_tidied (tidied (reading_of joined_one))
      (tidied_count joined_one ∙ joined_anew.count ∙ sym (adopted_reads d).count) both_agree

  along_both : (p : Pair) → Contains (thread_pairs read_tidied) p → Contains (thread_pairs (tidied (reading_of joined_one))) p
  along_both p there = subst (λ (ps : List Pair). Contains ps p) (sym both_threads) there

  pub rewritten_agree : AgreeAt read_tidied (reading_of t) (thread_pairs read_tidied)
  rewritten_agree p there = is.tidied.held p (along_both p there) ∙ both_agree p there

  pub rewritten_thread : thread_pairs (reading_of t) ≡ thread_pairs read_tidied
  rewritten_thread =
      pairs_agree read_tidied (reading_of t) (is.tidied.count ∙ joined_anew.count ∙ sym (adopted_reads d).count) rewritten_agree

  -- ---- no older state of a pair

  along_settled : (p : Pair) → Contains (thread_pairs read_tidied) p → Contains (thread_pairs (settled_reading_of d)) p
  along_settled p there =
      subst (λ (ps : List Pair). Contains ps p) (pairs_of_one (settled_reading_of d)) (along_before by_device p there)

  settled_thread : thread_pairs (reading_of settled_one) ≡ thread_pairs (settled_reading_of d)
  settled_thread =
      pairs_agree (settled_reading_of d) (reading_of settled_one) (is.relaid.settled.count ∙ sym (settled_reads d).count)
      is.relaid.settled.held

  joined_alone : (p : Pair) → Contains (thread_pairs (reading_of settled_one)) p → IsSame settled_one joined_one p ⊎ IsAlone joined_one p
  joined_alone p there =
      let begun = superblocks_begin (reading_of settled_one) in
      let first : List Pair = superblock_pairs (reading_of settled_one) in
      elim (Contains-append_cases first begun.0 p (subst (λ (ps : List Pair). Contains ps p) begun.1 there)) [
        | inl among ↦ is.relaid.joined.alone p among
        | inr later ↦
            let named = pairs_name_both begun.0 p later in
            let apart = λ (b : ℕ) (some : 0 < pairs_name b begun.0).
            let sum : pairs_name b (thread_pairs (reading_of settled_one)) ≡ pairs_name b first + pairs_name b begun.0 =
            ap (pairs_name b) begun.1 ∙ sum_by-append (pair_names b) first begun.0 in
            let none : pairs_name b first ≡ 0 = omega (arith, some, sum, (thread_is_front (reading_of settled_one)).once b) in
            is.relaid.joined.others b none in
            inl (apart p.0 named.0, apart p.1 named.1)
      ]

  pub rewritten_alone : (p : Pair) → Contains (thread_pairs read_tidied) p → IsLeft d t p ⊎ IsAlone t p
  rewritten_alone p there =
      let along = along_settled p there in
      carried_on d joined_one t p is.tidied.size (is.tidied.alone p (along_both p there))
      (carried_on d settled_one joined_one p is.relaid.joined.size
      (joined_alone p (subst (λ (ps : List Pair). Contains ps p) (sym settled_thread) along)) (is.relaid.settled.alone p along))
