-- An image whose superblocks' pairs hold their parts with one superblock.
use Rattle.std.proofs.Common.{◌≡◌, ◌⊎◌, inl, inr, ℕ, ◌+◌, ◌≤◌, Bool, true, false, List, [], ◌∷◌, map, Option, Some, None, refl, ap, sym, ◌∙◌, subst, arith}
use Rattle.std.specs.Prelude.{All, Contains, ◌&&◌, option_map}
use Rattle.std.specs.List.{list_all}
use Rattle.std.proofs.lemmas.Bool.Decides.{nat_tests}
use Rattle.std.proofs.lemmas.Bool.{and_parts}
use Rattle.std.proofs.lemmas.List.Elements.{All-contains, All-contains_itself, All-weaker}
use Rattle.std.proofs.lemmas.List.Sums.{sum_by-cons}
use Rattle.lfs_block.specs.Disk.{Disk, IsDisk}
use Rattle.lfs_meta.specs.Body.{Pair}
use Rattle.lfs_meta.specs.Entry.{StoredEntry}
use Rattle.lfs_meta.specs.Laws.{PartsDependOnTheirBlocks}
use Rattle.lfs_meta.specs.LiveBlock.{stored_part_of}
use Rattle.lfs_meta.specs.Part.{StoredPart}
use Rattle.lfs_fs.specs.Pair.{root}
use Rattle.lfs_fs.specs.Front.{pair_names, pairs_name}
use Rattle.lfs_fs.specs.Gathering.{PairPart}
use Rattle.lfs_fs.specs.Reading.{Reading, reading_of}
use Rattle.lfs_fs.proofs.ContainsLemmas.{contains_cases, contains_first, contains_later, contains_mapped, contains_none}
use Rattle.lfs_lower.specs.Alone.{IsAlone, IsSame}
use Rattle.lfs_lower.specs.Joined.{IsJoinedImage}
use Rattle.lfs_lower.specs.Joining.{AreSuperblockParts, ArePartsPut, CanPut, led_parts, parts_held, stripped}
use Rattle.lfs_lower.specs.OneSuperblock.{all_can, can_be_put, can_join, joined_of_superblocks, last_superblock, lead, one_superblock, part_joined, superblock_pairs}
use Rattle.lfs_lower.proofs.FreshPairs.{AreFresh, along_fresh}
use Rattle.lfs_lower.proofs.GatheredParts.{held_none, held_some}
use Rattle.lfs_lower.proofs.JoinedParts.{joined_part, last_is, led_is}
use Rattle.lfs_lower.proofs.JoinedComplete.{AreComplete}
use Rattle.lfs_lower.proofs.PartsPut.{pair_in, pairs_in}

-- ---- the test

can_by : (r : Reading) (pairs : List Pair) (last : Option StoredEntry) (p : Pair) (ps : List Pair) (o : Option StoredPart) → r.part p ≡ o
    → list_all (λ (q : PairPart). can_be_put r.size r.count q.1) (map (joined_part pairs last) (parts_held r ps))
    ≡ list_all (λ (q : Pair). all_can r.size r.count (option_map (joined_of_superblocks pairs last q) (r.part q))) ps
    → list_all (λ (q : PairPart). can_be_put r.size r.count q.1) (map (joined_part pairs last) (parts_held r (p ∷ ps)))
    ≡ list_all (λ (q : Pair). all_can r.size r.count (option_map (joined_of_superblocks pairs last q) (r.part q))) (p ∷ ps)
can_by r pairs last p ps None read rest = rw (held_none r p ps read, read) rest
can_by r pairs last p ps (Some s) read rest =
    rw (held_some r p ps s read, read) (ap (λ (t : Bool). can_be_put r.size r.count (joined_of_superblocks pairs last p s) && t) rest)

-- whether each part can be put is whether the pairs can be joined_of_superblocks
can_is : (r : Reading) (pairs : List Pair) (last : Option StoredEntry) (ps : List Pair)
    → list_all (λ (q : PairPart). can_be_put r.size r.count q.1) (map (joined_part pairs last) (parts_held r ps))
    ≡ list_all (λ (q : Pair). all_can r.size r.count (option_map (joined_of_superblocks pairs last q) (r.part q))) ps
can_is r pairs last [] = refl
can_is r pairs last (p ∷ ps) = can_by r pairs last p ps (r.part p) refl (can_is r pairs last ps)

-- ---- the blocks of parts

-- with other entries, parts have the pairs that they had
same_pairs : (pairs : List Pair) (last : Option StoredEntry) (ps : List PairPart) → pairs_in (map (joined_part pairs last) ps) ≡ pairs_in ps
same_pairs pairs last [] = refl
same_pairs pairs last (p ∷ ps) = ap (λ (qs : List Pair). p.0 ∷ qs) (same_pairs pairs last ps)

named_by : (r : Reading) (b : ℕ) (p : Pair) (ps : List Pair) (o : Option StoredPart) → r.part p ≡ o
    → pairs_name b (pairs_in (parts_held r (p ∷ ps))) ≤ pair_names b p + pairs_name b (pairs_in (parts_held r ps))
named_by r b p ps None read = let is = ap (λ (qs : List PairPart). pairs_name b (pairs_in qs)) (held_none r p ps read) in omega arith
named_by r b p ps (Some s) read =
    let is = ap (λ (qs : List PairPart). pairs_name b (pairs_in qs)) (held_some r p ps s read) in
    omega (arith, sum_by-cons (pair_names b) p (pairs_in (parts_held r ps)))

-- they name no more blocks than the pairs that hold them
held_named : (r : Reading) (b : ℕ) (ps : List Pair) → pairs_name b (pairs_in (parts_held r ps)) ≤ pairs_name b ps
held_named r b [] = omega arith
held_named r b (p ∷ ps) =
    let one = named_by r b p ps (r.part p) refl in
    let rest = held_named r b ps in
    omega (arith, sum_by-cons (pair_names b) p ps)

-- and none of a pair that holds none
unheld_named : (r : Reading) (b : ℕ) (p : Pair) (ps : List Pair) → r.part p ≡ None → Contains ps p
    → pairs_name b (pairs_in (parts_held r ps)) + pair_names b p ≤ pairs_name b ps
unheld_named r b p [] read there = absurd (contains_none p there)
unheld_named r b p (q ∷ ps) read there =
    elim (contains_cases q ps p there) [
      | inl is ↦ (
          let none : parts_held r (q ∷ ps) ≡ parts_held r ps = held_none r q ps (ap r.part (sym is) ∙ read) in
          let same = ap (λ (qs : List PairPart). pairs_name b (pairs_in qs)) none in
          let named = ap (pair_names b) is in
          let rest = held_named r b ps in
          omega (arith, sum_by-cons (pair_names b) q ps))
      | inr later ↦ (
          let one = named_by r b q ps (r.part q) refl in
          let rest = unheld_named r b p ps read later in
          omega (arith, sum_by-cons (pair_names b) q ps))
    ]

in_by : (r : Reading) (q p : Pair) (s : StoredPart) (ps : List Pair) (o : Option StoredPart) → r.part q ≡ o
    → Contains (parts_held r ps) (p, s) → Contains (parts_held r (q ∷ ps)) (p, s)
in_by r q p s ps None read there = rw (held_none r q ps read) there
in_by r q p s ps (Some t) read there = rw (held_some r q ps t read) (contains_later (q, t) (parts_held r ps) (p, s) there)

-- a pair's part is among them
part_in : (r : Reading) (p : Pair) (s : StoredPart) (ps : List Pair) → r.part p ≡ Some s → Contains ps p → Contains (parts_held r ps) (p, s)
part_in r p s [] read there = absurd (contains_none p there)
part_in r p s (q ∷ ps) read there =
    elim (contains_cases q ps p there) [
      | inl is ↦ (
          let found : r.part q ≡ Some s = ap r.part (sym is) ∙ read in
          subst (λ (qs : List PairPart). Contains qs (p, s)) (sym (held_some r q ps s found))
          (subst (λ (x : Pair). Contains ((x, s) ∷ parts_held r ps) (p, s)) is (contains_first (p, s) (parts_held r ps))))
      | inr later ↦ in_by r q p s ps (r.part q) refl (part_in r p s ps read later)
    ]

-- ---- pairs that can be rewritten

-- what all pass, each passes
each_passes : (test : PairPart → Bool) (ps : List PairPart) (p : PairPart) → list_all test ps ≡ true → Contains ps p → test p ≡ true
each_passes test [] p all there = absurd (contains_none p there)
each_passes test (q ∷ ps) p all there =
    let both = and_parts (test q) (list_all test ps) all in
    elim (contains_cases q ps p there) [ inl is ↦ ap test is ∙ both.0 | inr later ↦ each_passes test ps p both.1 later ]

-- the parts that the superblocks' pairs are to hold
abbrev parts_to_be : Disk → List PairPart
parts_to_be d =
    map (joined_part (superblock_pairs (reading_of d)) (last_superblock (reading_of d))) (parts_held (reading_of d) (superblock_pairs (reading_of d)))

pairs_fresh : (d : Disk) → AreFresh d.count (superblock_pairs (reading_of d))
pairs_fresh d = along_fresh (lead (reading_of d)) d.count d.count (Some root)

to_be_named : (d : Disk) (b : ℕ) → pairs_name b (pairs_in (parts_to_be d)) ≤ pairs_name b (superblock_pairs (reading_of d))
to_be_named d b =
    let r = reading_of d in
    let same = ap (pairs_name b) (same_pairs (superblock_pairs r) (last_superblock r) (parts_held r (superblock_pairs r))) in
    let fewer = held_named r b (superblock_pairs r) in
    omega arith

-- they name no block twice
to_be_once : (d : Disk) (b : ℕ) → pairs_name b (pairs_in (parts_to_be d)) ≤ 1
to_be_once d b = let fewer = to_be_named d b in let once = (pairs_fresh d).once b in omega arith

can_put_one : (d : Disk) (p : PairPart) → Contains (parts_to_be d) p → AreComplete p → can_be_put d.size d.count p.1 ≡ true → CanPut d p
can_put_one d p there complete can =
    let fresh = pairs_fresh d in
    let first_in = pair_in p.0.0 (parts_to_be d) p there in
    let second_in = pair_in p.0.1 (parts_to_be d) p there in
    let first_named = to_be_named d p.0.0 in
    let second_named = to_be_named d p.0.1 in
    let once = fresh.once p.0.0 in
    record {
      apart = grind (arith, nat_tests);
      first = fresh.within p.0.0 (grind (arith, nat_tests));
      second = fresh.within p.0.1 (grind (arith, nat_tests));
      complete = complete;
      can = can;
    }

can_put_all : (d : Disk) (parts : List PairPart) → parts ≡ parts_to_be d → All AreComplete parts
    → list_all (λ p. can_be_put d.size d.count p.1) parts ≡ true → All (CanPut d) parts
can_put_all d parts is complete can =
    All-weaker (Contains parts) (CanPut d)
    (λ p there. can_put_one d p (subst (λ (ps : List PairPart). Contains ps p) is there) (All-contains AreComplete parts p complete there)
    (each_passes (λ (q : PairPart). can_be_put d.size d.count q.1) parts p can there)) parts (All-contains_itself parts)

-- ---- the image

-- whether the superblocks' pairs can be joined_of_superblocks
abbrev pub can_be_joined : Disk → Bool
can_be_joined d = can_join (reading_of d) (superblock_pairs (reading_of d)) (last_superblock (reading_of d))

-- the blocks of a pair that holds no part stay
unread_same : (d e : Disk) (p : Pair) → ArePartsPut d e (parts_to_be d) → Contains (superblock_pairs (reading_of d)) p
    → (reading_of d).part p ≡ None → IsSame d e p
unread_same d e p put there read =
    let r = reading_of d in
    let pairs = superblock_pairs r in
    let fresh = pairs_fresh d in
    let first_most = fresh.once p.0 in
    let second_most = fresh.once p.1 in
    let first_free = unheld_named r p.0 p pairs read there in
    let second_free = unheld_named r p.1 p pairs read there in
    let first_same = ap (pairs_name p.0) (same_pairs pairs (last_superblock r) (parts_held r pairs)) in
    let second_same = ap (pairs_name p.1) (same_pairs pairs (last_superblock r) (parts_held r pairs)) in
    (put.others p.0 (grind (arith, nat_tests)), put.others p.1 (grind (arith, nat_tests)))

-- a pair that holds a part is one of those that are to be
to_be_in : (d : Disk) (p : Pair) (s : StoredPart) → Contains (superblock_pairs (reading_of d)) p → (reading_of d).part p ≡ Some s
    → Contains (parts_to_be d) (joined_part (superblock_pairs (reading_of d)) (last_superblock (reading_of d)) (p, s))
to_be_in d p s there read =
    let r = reading_of d in
    let pairs = superblock_pairs r in
    contains_mapped (joined_part pairs (last_superblock r)) (parts_held r pairs) (p, s) (part_in r p s pairs read there)

held_by : (d e : Disk) (p : Pair) (o : Option StoredPart) → PartsDependOnTheirBlocks → ArePartsPut d e (parts_to_be d)
    → can_be_joined d ≡ true → Contains (superblock_pairs (reading_of d)) p → (reading_of d).part p ≡ o
    → stored_part_of e p ≡ (one_superblock (reading_of d)).part p
held_by d e p None depend put can there read = (depend e d p (unread_same d e p put there read)).2 ∙ rw read refl
held_by d e p (Some s) depend put can there read =
    let r = reading_of d in
    let pairs = superblock_pairs r in
    let last = last_superblock r in
    put.held (joined_part pairs last (p, s)) (to_be_in d p s there read)
    ∙ ap (λ (t : Bool). Some (part_joined t pairs last p s)) (sym can)
    ∙ ap (option_map (part_joined (can_be_joined d) pairs last p)) (sym read)

alone_by : (d e : Disk) (p : Pair) (o : Option StoredPart) → ArePartsPut d e (parts_to_be d) → Contains (superblock_pairs (reading_of d)) p
    → (reading_of d).part p ≡ o → IsSame d e p ⊎ IsAlone e p
alone_by d e p None put there read = inl (unread_same d e p put there read)
alone_by d e p (Some s) put there read =
    let r = reading_of d in
    put.alone (joined_part (superblock_pairs r) (last_superblock r) (p, s)) (to_be_in d p s there read)

-- where all can be, and their pairs hold them, it is joined_of_superblocks
joined_is : (d e : Disk) → PartsDependOnTheirBlocks → ArePartsPut d e (parts_to_be d) → can_be_joined d ≡ true → IsJoinedImage d e
joined_is d e depend put can = record {
  disk = put.disk;
  size = put.size;
  count = put.count;
  held = λ p there. held_by d e p ((reading_of d).part p) depend put can there refl;
  alone = λ p there. alone_by d e p ((reading_of d).part p) put there refl;
  others = λ b none. put.others b (let fewer = to_be_named d b in omega arith);
}

stays_by : (d : Disk) (p : Pair) (o : Option StoredPart) → can_be_joined d ≡ false → (reading_of d).part p ≡ o
    → stored_part_of d p ≡ (one_superblock (reading_of d)).part p
stays_by d p None can read = read ∙ rw read refl
stays_by d p (Some s) can read =
    let r = reading_of d in
    let pairs = superblock_pairs r in
    let last = last_superblock r in
    read ∙ ap (λ (t : Bool). Some (part_joined t pairs last p s)) (sym can)
    ∙ ap (option_map (part_joined (can_be_joined d) pairs last p)) (sym read)

-- where not, it stays as it is
pub stays_is : (d : Disk) → IsDisk d → can_be_joined d ≡ false → IsJoinedImage d d
stays_is d is can = record {
  disk = is;
  size = refl;
  count = refl;
  held = λ p there. stays_by d p ((reading_of d).part p) can refl;
  alone = λ p there. inl (refl, refl);
  others = λ b none. refl;
}

-- ---- as the code has them

module _ (d : Disk) (parts : List PairPart) (h : AreSuperblockParts d parts) where
  is_to_be : parts ≡ parts_to_be d
  is_to_be =
      let r = reading_of d in
      let held = parts_held r (superblock_pairs r) in
      h.is ∙ ap (λ (e : Option StoredEntry). led_parts e (map stripped held)) (last_is r None (superblock_pairs r))
      ∙ led_is r (last_superblock r)

  -- the test of all of them
  joined_can : list_all (λ p. can_be_put d.size d.count p.1) parts ≡ can_be_joined d
  joined_can =
      let r = reading_of d in
      ap (list_all (λ (p : PairPart). can_be_put d.size d.count p.1)) is_to_be
      ∙ can_is r (superblock_pairs r) (last_superblock r) (superblock_pairs r)

  pub tested : (size count : ℕ) → size ≡ d.size → count ≡ d.count → list_all (λ p. can_be_put size count p.1) parts ≡ can_be_joined d
  tested size count same_size same_count =
      ap (λ (n : ℕ). list_all (λ (p : PairPart). can_be_put n count p.1) parts) same_size
      ∙ ap (λ (n : ℕ). list_all (λ (p : PairPart). can_be_put d.size n p.1) parts) same_count ∙ joined_can

  pub joined_put : can_be_joined d ≡ true → All (CanPut d) parts
  joined_put can = can_put_all d parts is_to_be h.complete (joined_can ∙ can)

  pub joined_once : (b : ℕ) → pairs_name b (pairs_in parts) ≤ 1
  joined_once b = subst (λ (qs : List PairPart). pairs_name b (pairs_in qs) ≤ 1) (sym is_to_be) (to_be_once d b)

  pub joined_all : (e : Disk) → PartsDependOnTheirBlocks → ArePartsPut d e parts → can_be_joined d ≡ true → IsJoinedImage d e
  joined_all e depend put can = joined_is d e depend (subst (ArePartsPut d e) is_to_be put) can
