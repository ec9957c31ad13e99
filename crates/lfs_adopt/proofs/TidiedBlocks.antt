-- An image whose pairs hold the tidied parts is tidied.
use Rattle.std.proofs.Common.{◌≡◌, ◌≢◌, ℕ, ◌≤◌, ◌<◌, ◌==◌, Bool, true, false, List, [], ◌∷◌, length, Option, Some, None, refl, ap, sym}
use Rattle.std.proofs.Common.{◌∙◌, subst, arith, ◌⊎◌, inl}
use Rattle.std.specs.Prelude.{All, Contains, ◌&&◌, bytes_eq, cond, if◌then◌else◌, not}
use Rattle.std.specs.List.{AllByRecursion, filter, list_all}
use Rattle.std.specs.Option.{option_map_or}
use Rattle.std.proofs.lemmas.Bool.{and_from, and_left, and_parts, eq-eqb, eqb-false, eqb-true}
use Rattle.std.proofs.lemmas.Bool.Decides.{nat_tests}
use Rattle.std.proofs.lemmas.Option.{same_Some}
use Rattle.std.proofs.lemmas.Slice.Eq.{bytes_eq-Decides}
use Rattle.std.proofs.lemmas.List.Elements.{All-contains, All-nil}
use Rattle.lfs_block.specs.Disk.{Disk, IsDisk}
use Rattle.lfs_meta.specs.declared.tail.Tail.{Tail}
use Rattle.lfs_meta.specs.declared.tail.Tail.TheVariants.{End, Hard, Soft}
use Rattle.lfs_meta.specs.Body.{Pair}
use Rattle.lfs_meta.specs.Complete.{IsComplete}
use Rattle.lfs_meta.specs.Laws.{PartsDependOnTheirBlocks}
use Rattle.lfs_meta.specs.LiveBlock.{stored_part_of}
use Rattle.lfs_meta.specs.Part.{StoredPart}
use Rattle.lfs_fs.specs.Pair.{root}
use Rattle.lfs_fs.specs.Front.{IsThread, pairs_name}
use Rattle.lfs_fs.specs.Gathering.{PairPart, delta_from}
use Rattle.lfs_fs.specs.Reading.{Reading, reading_of}
use Rattle.lfs_fs.proofs.ApartLemmas.{same_bytes}
use Rattle.lfs_fs.proofs.ContainsLemmas.{contains_first, contains_later, contains_none}
use Rattle.lfs_fs.proofs.PairLemmas.{same_pair-refl}
use Rattle.lfs_lower.specs.Alone.{IsAlone, IsSame}
use Rattle.lfs_lower.specs.Joining.{ArePartsPut, CanPut}
use Rattle.lfs_lower.specs.OneSuperblock.{can_be_put}
use Rattle.lfs_lower.proofs.LongestFronts.{names_first}
use Rattle.lfs_lower.proofs.PartsPut.{pair_in, pairs_in}
use Rattle.lfs_settle.specs.InStep.{has_thread, thread_pairs, thread_parts}
use Rattle.lfs_settle.specs.Settled.{can_hold, is_held, is_kept, same_tail, with_parts}
use Rattle.lfs_settle.proofs.PartLists.{all_are, all_can_hold, contains_of, each_passes, fewer, inside, left_out, omega_none}
use Rattle.lfs_settle.proofs.ReachedGroups.{contains_filtered}
use Rattle.lfs_settle.proofs.SettledBlocks.{has_part, part_is, parts_thread, tail_is}
use Rattle.lfs_settle.proofs.ThreadPairs.{thread_found, thread_is_front}
use Rattle.lfs_settle.proofs.ThreadParts.{LinkedFrom, held_is}
use Rattle.lfs_settle.proofs.WholeThread.{held_named, names_second, thread_once, whole_linked}
use Rattle.lfs_adopt.specs.Laws.{TidiedImagesStay}
use Rattle.lfs_adopt.specs.Planned.{ArePlanned}
use Rattle.lfs_adopt.specs.Tidied.{IsTidiedImage, can_tidy, changed_parts, parts_to_put, tidied, tidied_parts}
use Rattle.lfs_adopt.proofs.Filled.{tidied_first, tidied_linked, tidied_names, tidied_of, tidied_stays}

-- the parts that stay of a thread
abbrev pub left : Reading → List PairPart
left r = tidied_parts (thread_parts r)

-- ---- a part that is held already

module _ (r : Reading) where
  kept_by : (q : PairPart) → Contains (left r) q → (s : StoredPart) → r.part q.0 ≡ Some s → is_kept q.1 s ≡ true → q.1 ≡ s
  kept_by q there s read kept =
      let all = and_parts ((length q.1.entries == length s.entries) && same_tail q.1.tail s.tail) (bytes_eq q.1.delta s.delta) kept in
      let both = and_parts (length q.1.entries == length s.entries) (same_tail q.1.tail s.tail) all.0 in
      let of = tidied_of (thread_parts r) q there in
      let same : of.part.1 ≡ s =
      same_Some of.part.1 s (sym (held_is r (thread_pairs r) of.part of.there) ∙ ap r.part of.pair ∙ read) in
      part_is q.1 s (sym of.entries ∙ ap (λ (x : StoredPart). x.entries) same) (tail_is q.1.tail s.tail both.1)
      ((bytes_eq-Decides q.1.delta s.delta).0 all.1)

  held_by : (q : PairPart) (o : Option StoredPart) → Contains (left r) q → r.part q.0 ≡ o → option_map_or (is_kept q.1) o false ≡ true
      → r.part q.0 ≡ Some q.1
  held_by q None there read held = cc
  held_by q (Some s) there read held = read ∙ ap (λ (x : StoredPart). Some x) (sym (kept_by q there s read held))

  -- a pair that holds a part already
  held_already : (q : PairPart) → Contains (left r) q → is_held r q ≡ true → r.part q.0 ≡ Some q.1
  held_already q there held = held_by q (r.part q.0) there refl held

-- ---- the blocks of the parts that stay

pub left_once : (r : Reading) (b : ℕ) → pairs_name b (pairs_in (left r)) ≤ 1
left_once r b = omega (arith, tidied_names (thread_parts r) b, thread_once r b)

pub left_within : (r : Reading) (b : ℕ) → 0 < pairs_name b (pairs_in (left r)) → b < r.count
left_within r b some =
    (thread_is_front r).within b (omega (arith, some, tidied_names (thread_parts r) b, held_named r b (thread_pairs r)))

first_within : (r : Reading) (q : PairPart) → Contains (left r) q → q.0.0 < r.count
first_within r q there = left_within r q.0.0 (omega (arith, pair_in q.0.0 (left r) q there, names_first q.0))

second_within : (r : Reading) (q : PairPart) → Contains (left r) q → q.0.1 < r.count
second_within r q there = left_within r q.0.1 (omega (arith, pair_in q.0.1 (left r) q there, names_second q.0))

left_apart : (r : Reading) (q : PairPart) → Contains (left r) q → q.0.0 ≢ q.0.1
left_apart r q there =
    let named = pair_in q.0.0 (left r) q there in
    let once = left_once r q.0.0 in
    grind (arith, nat_tests)

-- the pairs of parts that are to be looked at are of the disk
module _ (d : Disk) (along parts : List PairPart) (along_are : along ≡ thread_parts (reading_of d))
    (parts_are : parts ≡ tidied_parts along) where
  are_left : parts ≡ left (reading_of d)
  are_left = parts_are ∙ ap tidied_parts along_are

  pub first_of_parts : All (λ p. p.0.0 < d.count) parts
  first_of_parts =
      subst (All (λ (p : PairPart). p.0.0 < d.count)) (sym are_left)
      (all_are (λ (p : PairPart). p.0.0 < d.count) (left (reading_of d)) (λ p there. first_within (reading_of d) p there))

  pub second_of_parts : All (λ p. p.0.1 < d.count) parts
  second_of_parts =
      subst (All (λ (p : PairPart). p.0.1 < d.count)) (sym are_left)
      (all_are (λ (p : PairPart). p.0.1 < d.count) (left (reading_of d)) (λ p there. second_within (reading_of d) p there))

-- ---- the thread

-- the thread of an image that can be tidied is whole
module _ (r : Reading) (can : can_tidy r ≡ true) where
  pub linked_if : LinkedFrom (Some root) (thread_parts r)
  linked_if =
      whole_linked r
      (and_parts (has_thread r) (delta_from (thread_parts r) == 0)
      (and_parts (has_thread r && (delta_from (thread_parts r) == 0)) (list_all (λ p. can_hold r p) (left r)) can).0).0

  pub no_state_if : delta_from (thread_parts r) ≡ 0
  no_state_if =
      eqb-true (delta_from (thread_parts r)) 0
      (and_parts (has_thread r) (delta_from (thread_parts r) == 0)
      (and_parts (has_thread r && (delta_from (thread_parts r) == 0)) (list_all (λ p. can_hold r p) (left r)) can).0).1

  pub tidied_is : tidied r ≡ with_parts r (left r)
  tidied_is = ap (λ (b : Bool). if b then with_parts r (left r) else r) can

  -- the pairs of the parts that stay are those along the tidied thread
  pub left_thread : IsThread (with_parts r (left r)) (pairs_in (left r))
  left_thread =
      parts_thread r (left r) (left_once r) (left_within r) (tidied_linked (thread_parts r) linked_if.linked)
      (tidied_first (thread_parts r) ∙ linked_if.first)

  pub pairs_are : pairs_in (left r) ≡ thread_pairs (tidied r)
  pairs_are = thread_found (with_parts r (left r)) (pairs_in (left r)) left_thread ∙ ap thread_pairs (sym tidied_is)

pub untidied_is : (r : Reading) → can_tidy r ≡ false → tidied r ≡ r
untidied_is r can = ap (λ (b : Bool). if b then with_parts r (left r) else r) can

-- ---- the parts that are to be put

-- whether parts can be put, by a size and a count
abbrev all_fit : ℕ → ℕ → List PairPart → Bool
all_fit size count ps = list_all (λ p. can_be_put size count p.1) ps

-- the test, as the code makes it
tested : (d : Disk) (changed : List PairPart) (size count : ℕ) → changed ≡ changed_parts (reading_of d) → size ≡ d.size → count ≡ d.count
    → (has_thread (reading_of d) && (delta_from (thread_parts (reading_of d)) == 0)) ≡ true
    → all_fit size count changed ≡ can_tidy (reading_of d)
tested d changed size count is same_size same_count whole =
    let r : Reading = reading_of d in
    ap (λ (n : ℕ). all_fit n count changed) same_size
    ∙ ap (λ (n : ℕ). all_fit d.size n changed) same_count
    ∙ ap (all_fit d.size d.count) is
    ∙ all_can_hold (λ p. is_held r p) (λ p. can_be_put r.size r.count p.1) (left r)
    ∙ ap (λ (b : Bool). b && list_all (λ (p : PairPart). can_hold r p) (left r)) (sym whole)

-- the test of the thread, as the code makes it
thread_test : (d : Disk) (along : List PairPart) (whole : Bool) → along ≡ thread_parts (reading_of d) → whole ≡ has_thread (reading_of d)
    → (whole && (delta_from along == 0)) ≡ (has_thread (reading_of d) && (delta_from (thread_parts (reading_of d)) == 0))
thread_test d along whole along_are whole_is =
    ap (λ (b : Bool). b && (delta_from along == 0)) whole_is
    ∙ ap (λ (ps : List PairPart). has_thread (reading_of d) && (delta_from ps == 0)) along_are

-- what a plan is made of: the parts along the thread, those that stay, and those of them that are changed
pub record ArePlannedOf (d : Disk) (along parts changed : List PairPart) (whole : Bool) : Type 0 where
  pub along_are : along ≡ thread_parts (reading_of d)
  pub whole_is : whole ≡ has_thread (reading_of d)
  pub complete : All (λ p. AllByRecursion IsComplete p.1.entries) along
  pub parts_are : parts ≡ tidied_parts along
  pub changed_are : changed ≡ filter (λ p. not (is_held (reading_of d) p)) parts

-- each that is changed can be put
module _ (d : Disk) (complete : All (λ p. AllByRecursion IsComplete p.1.entries) (thread_parts (reading_of d)))
    (can : can_tidy (reading_of d) ≡ true) where
  all_fitting : all_fit d.size d.count (changed_parts (reading_of d)) ≡ true
  all_fitting =
      let r : Reading = reading_of d in
      all_can_hold (λ p. is_held r p) (λ p. can_be_put r.size r.count p.1) (left r)
      ∙ (and_parts (has_thread r && (delta_from (thread_parts r) == 0)) (list_all (λ p. can_hold r p) (left r)) can).1

  still_complete : (p : PairPart) → Contains (left (reading_of d)) p → AllByRecursion IsComplete p.1.entries
  still_complete p there =
      let of = tidied_of (thread_parts (reading_of d)) p there in
      subst (AllByRecursion IsComplete) of.entries
      (All-contains (λ (y : PairPart). AllByRecursion IsComplete y.1.entries) (thread_parts (reading_of d)) of.part complete of.there)

  can_put : (p : PairPart) → Contains (changed_parts (reading_of d)) p → CanPut d p
  can_put p there =
      let r : Reading = reading_of d in
      let stays = inside (λ (x : PairPart). not (is_held r x)) (left r) p there in
      record {
        apart = left_apart r p stays;
        first = first_within r p stays;
        second = second_within r p stays;
        complete = still_complete p stays;
        can = each_passes (λ (y : PairPart). can_be_put d.size d.count y.1) (changed_parts r) p all_fitting there;
      }

  can_put_all : All (CanPut d) (changed_parts (reading_of d))
  can_put_all = all_are (CanPut d) (changed_parts (reading_of d)) can_put

-- none is put if the image can't be tidied
pub none_planned : (d : Disk) (changed : List PairPart) → can_tidy (reading_of d) ≡ false → changed ≡ [] → ArePlanned d changed
none_planned d changed can none = record {
  changed_are = none ∙ ap (λ (b : Bool). if b then changed_parts (reading_of d) else []) (sym can);
  can = subst (All (CanPut d)) (sym none) (All-nil (CanPut d));
}

-- as when its thread isn't whole, or there is a state
pub unfit_thread : (d : Disk) (along : List PairPart) (whole : Bool) → along ≡ thread_parts (reading_of d)
    → whole ≡ has_thread (reading_of d) → (whole && (delta_from along == 0)) ≡ false → can_tidy (reading_of d) ≡ false
unfit_thread d along whole along_are whole_is unfit =
    let r : Reading = reading_of d in
    and_left (has_thread r && (delta_from (thread_parts r) == 0)) (list_all (λ p. can_hold r p) (left r))
    (sym (thread_test d along whole along_are whole_is) ∙ unfit)

module _ (d : Disk) (along parts changed : List PairPart) (whole : Bool) (of : ArePlannedOf d along parts changed whole) where
  changed_is : changed ≡ changed_parts (reading_of d)
  changed_is =
      of.changed_are
      ∙ ap (λ (ps : List PairPart). filter (λ p. not (is_held (reading_of d) p)) ps) (of.parts_are ∙ ap tidied_parts of.along_are)

  -- the test of the parts, as it was made
  pub fit_is : (size count : ℕ) (looked_at : List PairPart) (fit : Bool) → (whole && (delta_from along == 0)) ≡ true → looked_at ≡ changed
      → size ≡ d.size → count ≡ d.count → fit ≡ list_all (λ p. can_be_put size count p.1) looked_at → fit ≡ can_tidy (reading_of d)
  fit_is size count looked_at fit whole_thread same same_size same_count test =
      test
      ∙ ap (all_fit size count) same
      ∙ tested d changed size count changed_is same_size same_count
      (sym (thread_test d along whole of.along_are of.whole_is) ∙ whole_thread)

  pub changed_planned : can_tidy (reading_of d) ≡ true → ArePlanned d changed
  changed_planned can = record {
    changed_are = changed_is ∙ ap (λ (b : Bool). if b then changed_parts (reading_of d) else []) (sym can);
    can = subst (All (CanPut d)) (sym changed_is)
        (can_put_all d (subst (All (λ (p : PairPart). AllByRecursion IsComplete p.1.entries)) of.along_are of.complete) can);
  }

-- ---- the plan

put_once_by : (r : Reading) (t : Bool) (b : ℕ) → pairs_name b (pairs_in (if t then changed_parts r else [])) ≤ 1
put_once_by r true b = omega (arith, fewer b (λ (p : PairPart). not (is_held r p)) (left r), left_once r b)
put_once_by r false b = omega arith

pub put_once : (d : Disk) (changed : List PairPart) → ArePlanned d changed → (b : ℕ) → pairs_name b (pairs_in changed) ≤ 1
put_once d changed plan b =
    subst (λ (ps : List PairPart). pairs_name b (pairs_in ps) ≤ 1) (sym plan.changed_are)
    (put_once_by (reading_of d) (can_tidy (reading_of d)) b)

-- ---- the image

module _ (depend : PartsDependOnTheirBlocks) (d e : Disk) where
  abbrev old : Reading
  old = reading_of d

  module _ (can : can_tidy old ≡ true) (put : ArePartsPut d e (changed_parts old)) where
    -- the blocks stay of a pair whose part isn't put
    blocks_stay : (q : PairPart) → Contains (left old) q → is_held old q ≡ true → IsSame d e q.0
    blocks_stay q there held =
        let test : PairPart → Bool = λ (p : PairPart). not (is_held old p) in
        let out : test q ≡ false = ap not held in
        let first = omega_none q.0.0 (left_out q.0.0 test (left old) q there out) (left_once old q.0.0) (names_first q.0) in
        let second = omega_none q.0.1 (left_out q.0.1 test (left old) q there out) (left_once old q.0.1) (names_second q.0) in
        (put.others q.0.0 first, put.others q.0.1 second)

    -- all others are put
    put_if : (q : PairPart) → Contains (left old) q → is_held old q ≡ false → Contains (changed_parts old) q
    put_if q there is = contains_filtered (λ (p : PairPart). not (is_held old p)) (left old) q there (ap not is)

    put_there : (q : PairPart) (t : Bool) → Contains (left old) q → is_held old q ≡ t → stored_part_of e q.0 ≡ Some q.1
    put_there q true there is = (depend e d q.0 (blocks_stay q there is)).2 ∙ held_already old q there is
    put_there q false there is = put.held q (put_if q there is)

    alone_there : (q : PairPart) (t : Bool) → Contains (left old) q → is_held old q ≡ t → IsSame d e q.0 ⊎ IsAlone e q.0
    alone_there q true there is = inl (blocks_stay q there is)
    alone_there q false there is = put.alone q (put_if q there is)

    -- the part that a pair of the tidied thread holds
    part_along : (p : Pair) → Contains (thread_pairs (tidied old)) p → (q : PairPart) × Contains (left old) q × (q.0 ≡ p)
    part_along p there =
        contains_of (λ (x : PairPart). x.0) (left old) p (subst (λ (ps : List Pair). Contains ps p) (sym (pairs_are old can)) there)

    held_there : (q : PairPart) → Contains (left old) q → stored_part_of e q.0 ≡ (tidied old).part q.0
    held_there q there =
        put_there q (is_held old q) there refl
        ∙ sym (has_part old (left old) (left_once old) q there)
        ∙ ap (λ (x : Reading). x.part q.0) (sym (tidied_is old can))

    put_image : (parts_to_put old ≡ [] → e ≡ d) → IsTidiedImage d e
    put_image same = record {
      disk = put.disk;
      size = put.size;
      count = put.count;
      held = λ p there.
          let q = part_along p there in
          subst (λ (x : Pair). stored_part_of e x ≡ (tidied old).part x) q.2 (held_there q.0 q.1);
      alone = λ p there.
          let q = part_along p there in
          subst (λ (x : Pair). IsSame d e x ⊎ IsAlone e x) q.2 (alone_there q.0 (is_held old q.0) q.1 refl);
      others = λ b none.
          let unnamed : pairs_name b (pairs_in (left old)) ≡ 0 = ap (pairs_name b) (pairs_are old can) ∙ none in
          put.others b (omega (arith, fewer b (λ (p : PairPart). not (is_held old p)) (left old), unnamed));
      stays = same;
    }

  -- nothing is put if it can't be tidied
  left_image : can_tidy old ≡ false → ArePartsPut d e [] → (parts_to_put old ≡ [] → e ≡ d) → IsTidiedImage d e
  left_image can put same =
      let is : tidied old ≡ old = untidied_is old can in
      record {
        disk = put.disk;
        size = put.size;
        count = put.count;
        held = λ p there. (depend e d p (put.others p.0 refl, put.others p.1 refl)).2 ∙ ap (λ (q : Reading). q.part p) (sym is);
        alone = λ p there. inl (put.others p.0 refl, put.others p.1 refl);
        others = λ b none. put.others b refl;
        stays = same;
      }

  image_by : (t : Bool) → can_tidy old ≡ t → ArePartsPut d e (if t then changed_parts old else []) → (parts_to_put old ≡ [] → e ≡ d)
      → IsTidiedImage d e
  image_by true can put same = put_image can put same
  image_by false can put same = left_image can put same

  -- the image in which the parts of a plan are put
  pub planned_image : (changed : List PairPart) → ArePlanned d changed → ArePartsPut d e changed → (changed ≡ [] → e ≡ d)
      → IsTidiedImage d e
  planned_image changed plan put same =
      image_by (can_tidy old) refl (subst (ArePartsPut d e) plan.changed_are put) (λ none. same (plan.changed_are ∙ none))

none_put : (d : Disk) → IsDisk d → ArePartsPut d d []
none_put d disk = record {
  disk = disk;
  size = refl;
  count = refl;
  held = λ p there. absurd (contains_none p there);
  alone = λ p there. absurd (contains_none p there);
  others = λ b none. refl;
}

-- and the one in which no part is to be put
pub untouched_image : PartsDependOnTheirBlocks → (d : Disk) (changed : List PairPart) → IsDisk d → ArePlanned d changed → changed ≡ []
    → IsTidiedImage d d
untouched_image depend d changed disk plan none =
    planned_image depend d d changed plan (subst (ArePartsPut d d) (sym none) (none_put d disk)) (λ is. refl)

-- whether there are parts, by their number
pub no_parts : (ps : List PairPart) (n : ℕ) (b : Bool) → n ≡ length ps → b ≡ (n == 0) → b ≡ true → ps ≡ []
no_parts [] n b len test is = refl
no_parts (p ∷ ps) n b len test is = absurd (grind (arith, nat_tests, len, test, is))

pub some_parts : (ps : List PairPart) (n : ℕ) (b : Bool) → n ≡ length ps → b ≡ (n == 0) → b ≡ false → ps ≡ [] → ⊥
some_parts ps n b len test is none = eqb-false n 0 (sym test ∙ is) (len ∙ ap length none)

-- ---- parts that stay are held

tail_itself : (t : Tail) → same_tail t t ≡ true
tail_itself End = refl
tail_itself (Soft a b) = same_pair-refl (a, b)
tail_itself (Hard a b) = same_pair-refl (a, b)

kept_itself : (s : StoredPart) → is_kept s s ≡ true
kept_itself s =
    and_from ((length s.entries == length s.entries) && same_tail s.tail s.tail) (bytes_eq s.delta s.delta)
    (and_from (length s.entries == length s.entries) (same_tail s.tail s.tail) (eq-eqb (length s.entries) (length s.entries) refl)
    (tail_itself s.tail))
    (same_bytes s.delta)

held_itself : (r : Reading) (q : PairPart) → r.part q.0 ≡ Some q.1 → is_held r q ≡ true
held_itself r q read = ap (λ (o : Option StoredPart). option_map_or (is_kept q.1) o false) read ∙ kept_itself q.1

dropped_by : (t : Bool) (p : PairPart) (ps : List PairPart) → t ≡ true → ps ≡ [] → cond (not t) (p ∷ ps) ps ≡ []
dropped_by true p ps is none = none
dropped_by false p ps is none = cc

none_changed : (r : Reading) (ps : List PairPart) → ((q : PairPart) → Contains ps q → is_held r q ≡ true)
    → filter (λ p. not (is_held r p)) ps ≡ []
none_changed r [] all = refl
none_changed r (p ∷ ps) all =
    dropped_by (is_held r p) p (filter (λ (x : PairPart). not (is_held r x)) ps) (all p (contains_first p ps))
    (none_changed r ps (λ q there. all q (contains_later p ps q there)))

none_by : (r : Reading) (t : Bool) → changed_parts r ≡ [] → (if t then changed_parts r else []) ≡ []
none_by r true none = none
none_by r false none = refl

none_is_put : (r : Reading) → tidied_parts (thread_parts r) ≡ thread_parts r → parts_to_put r ≡ []
none_is_put r same =
    none_by r (can_tidy r)
    (ap (λ (ps : List PairPart). filter (λ p. not (is_held r p)) ps) same
    ∙ none_changed r (thread_parts r) (λ q there. held_itself r q (held_is r (thread_pairs r) q there)))

pub tidied_images_stay : TidiedImagesStay
tidied_images_stay d e is have = is.stays (none_is_put (reading_of d) (tidied_stays (thread_parts (reading_of d)) have))
