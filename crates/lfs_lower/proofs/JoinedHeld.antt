-- An image whose superblocks are joined_of_superblocks holds what is read in the other one with one superblock.
use Rattle.std.proofs.Common.{◌≡◌, inl, inr, ℕ, ◌+◌, ◌<◌, Bool, true, false, List, [], ◌∷◌, ◌++◌, Option, Some, None, refl, ap, sym, ◌∙◌}
use Rattle.std.proofs.Common.{subst, arith, append-nil}
use Rattle.std.specs.Prelude.{Contains, if◌then◌else◌, option_map, option_and_then, ◌&&◌, ◌||◌}
use Rattle.std.specs.List.{list_all, list_any}
use Rattle.std.proofs.lemmas.Bool.Decides.{nat_tests}
use Rattle.std.proofs.lemmas.List.Elements.{Contains-append_cases}
use Rattle.std.proofs.lemmas.List.Sums.{sum_by-append, sum_by-cons}
use Rattle.lfs_block.specs.Disk.{Disk, block_of}
use Rattle.lfs_meta.specs.Body.{Pair}
use Rattle.lfs_meta.specs.Entry.{StoredEntry}
use Rattle.lfs_meta.specs.LiveBlock.{stored_part_of}
use Rattle.lfs_meta.specs.Part.{StoredPart}
use Rattle.lfs_meta.proofs.FrameLemmas.{same_parts}
use Rattle.lfs_fs.specs.Pair.{root, same_pair}
use Rattle.lfs_fs.specs.Front.{Begins, pair_names, pairs_name, tail_of}
use Rattle.lfs_fs.specs.Reading.{Reading, reading_of}
use Rattle.lfs_fs.specs.Thread.{next}
use Rattle.lfs_fs.proofs.ContainsLemmas.{contains_first, contains_later}
use Rattle.lfs_fs.proofs.FrontLemmas.{fronts_begin_each_other}
use Rattle.lfs_fs.proofs.StoredLemmas.{there_in_thread}
use Rattle.lfs_lower.specs.Anew.{IsSpelledAnew, ReadsBlocks}
use Rattle.lfs_lower.specs.Joined.{IsJoinedImage}
use Rattle.lfs_lower.specs.OneSuperblock.{all_can, behind_superblock, can_join, entry_or, joined_of_superblocks, last_from, last_superblock, led_by, one_superblock, part_as_one, part_joined, superblock_at, superblock_in, superblock_pairs}
use Rattle.lfs_lower.proofs.LongestFronts.{AgreeAt, StepAlike, front_alike, longest_is, pairs_name_both}
use Rattle.lfs_lower.proofs.PairsAlong.{superblock_pairs_alike, superblock_pairs_are_front}
use Rattle.lfs_lower.proofs.StaysOne.{part_same}

-- ---- tails stay, and so do fronts

tail_same : (can : Bool) (pairs : List Pair) (last : Option StoredEntry) (p : Pair) (s : StoredPart)
    → next (part_joined can pairs last p s).tail ≡ next s.tail
tail_same true pairs last p s = refl
tail_same false pairs last p s = refl

step_same : (r : Reading) (p : Pair) (o : Option StoredPart) → tail_of (option_map (part_as_one r p) o) ≡ tail_of o
step_same r p None = refl
step_same r p (Some s) = tail_same (can_join r (superblock_pairs r) (last_superblock r)) (superblock_pairs r) (last_superblock r) p s

steps_to_one : (r : Reading) (ps : List Pair) → StepAlike r (one_superblock r) ps
steps_to_one r ps p there = step_same r p (r.part p)

steps_from_one : (r : Reading) (ps : List Pair) → StepAlike (one_superblock r) r ps
steps_from_one r ps p there = sym (step_same r p (r.part p))

-- ---- readings that agree on the superblocks' pairs agree on what counts

last_alike : (at to : Pair → Option StoredEntry) (found : Option StoredEntry) (ps : List Pair)
    → ((p : Pair) → Contains ps p → to p ≡ at p) → last_from to found ps ≡ last_from at found ps
last_alike at to found [] same = refl
last_alike at to found (p ∷ ps) same =
    ap (λ (o : Option StoredEntry). last_from to (entry_or o found) ps) (same p (contains_first p ps))
    ∙ last_alike at to (entry_or (at p) found) ps (λ q there. same q (contains_later p ps q there))

all_alike : (f g : Pair → Bool) (ps : List Pair) → ((p : Pair) → Contains ps p → g p ≡ f p) → list_all g ps ≡ list_all f ps
all_alike f g [] same = refl
all_alike f g (p ∷ ps) same =
    ap (λ (b : Bool). b && list_all g ps) (same p (contains_first p ps))
    ∙ ap (λ (b : Bool). f p && b) (all_alike f g ps (λ q there. same q (contains_later p ps q there)))

module _ (r q : Reading) (size : q.size ≡ r.size) (count : q.count ≡ r.count) (agree : AgreeAt r q (superblock_pairs r)) where
  pairs_same : superblock_pairs q ≡ superblock_pairs r
  pairs_same = superblock_pairs_alike r q count agree

  last_same : last_superblock q ≡ last_superblock r
  last_same =
      ap (last_from (superblock_at q) None) pairs_same
      ∙ last_alike (superblock_at r) (superblock_at q) None (superblock_pairs r)
      (λ p there. ap (option_and_then (λ s. superblock_in s.entries)) (agree p there))

  can_same : can_join q (superblock_pairs q) (last_superblock q) ≡ can_join r (superblock_pairs r) (last_superblock r)
  can_same =
      ap (λ (ps : List Pair). can_join q ps (last_superblock q)) pairs_same
      ∙ ap (can_join q (superblock_pairs r)) last_same
      ∙ ap (λ (n : ℕ). list_all (λ p. all_can n q.count (option_map (joined_of_superblocks (superblock_pairs r) (last_superblock r) p) (q.part p)))
      (superblock_pairs r)) size
      ∙ ap (λ (n : ℕ). list_all (λ p. all_can r.size n (option_map (joined_of_superblocks (superblock_pairs r) (last_superblock r) p) (q.part p)))
      (superblock_pairs r)) count
      ∙ all_alike (λ p. all_can r.size r.count (option_map (joined_of_superblocks (superblock_pairs r) (last_superblock r) p) (r.part p)))
      (λ p. all_can r.size r.count (option_map (joined_of_superblocks (superblock_pairs r) (last_superblock r) p) (q.part p))) (superblock_pairs r)
      (λ p there. ap (λ (o : Option StoredPart). all_can r.size r.count (option_map (joined_of_superblocks (superblock_pairs r) (last_superblock r) p) o))
      (agree p there))

  -- a part of both counts as the same
  as_one_same : (p : Pair) → q.part p ≡ r.part p → (one_superblock q).part p ≡ (one_superblock r).part p
  as_one_same p is =
      ap (option_map (part_as_one q p)) is
      ∙ ap (λ (b : Bool). option_map (part_joined b (superblock_pairs q) (last_superblock q) p) (r.part p)) can_same
      ∙ ap (λ (ps : List Pair). option_map
      (part_joined (can_join r (superblock_pairs r) (last_superblock r)) ps (last_superblock q) p) (r.part p)) pairs_same
      ∙ ap (λ (o : Option StoredEntry). option_map
      (part_joined (can_join r (superblock_pairs r) (last_superblock r)) (superblock_pairs r) o p) (r.part p)) last_same

-- ---- elsewhere parts are as they were

other_pair : (p q : Pair) → pair_names p.0 q ≡ 0 → same_pair p q ≡ false
other_pair p q none = grind (arith, nat_tests)

not_among : (p : Pair) (ps : List Pair) → pairs_name p.0 ps ≡ 0 → list_any (same_pair p) ps ≡ false
not_among p [] none = refl
not_among p (q ∷ qs) none =
    let sum = sum_by-cons (pair_names p.0) q qs in
    ap (λ (b : Bool). b || list_any (same_pair p) qs) (other_pair p q (omega arith)) ∙ not_among p qs (omega arith)

as_it_was : (r : Reading) (p : Pair) (o : Option StoredPart) → list_any (same_pair p) (superblock_pairs r) ≡ false
    → option_map (part_as_one r p) o ≡ o
as_it_was r p None none = refl
as_it_was r p (Some s) none = ap (λ (x : StoredPart). Some x)
    (part_same (can_join r (superblock_pairs r) (last_superblock r)) (superblock_pairs r) (last_superblock r) p s
    (ap (λ (b : Bool). if b then if same_pair p root then led_by (last_superblock r) (behind_superblock s.entries) else
    behind_superblock s.entries else s.entries) none))

-- ---- a joined_of_superblocks image is spelled anew

module _ (d : Disk) (r : Reading) (g f : Disk) (reads : ReadsBlocks d r) (anew : IsSpelledAnew d r g) (is : IsJoinedImage g f) where
  -- the superblocks' pairs begin the longest front
  begun : Begins (superblock_pairs r) anew.front
  begun = elim (fronts_begin_each_other r (superblock_pairs r) anew.front (superblock_pairs_are_front r) anew.is_front) [
    | inl begins ↦ begins
    | inr begins ↦ (
      [],
      sym (longest_is r anew.front (superblock_pairs r) anew.longest (superblock_pairs_are_front r) begins)
          ∙ sym (append-nil (superblock_pairs r)),
    )
  ]

  agree_there : AgreeAt r (reading_of g) (superblock_pairs r)
  agree_there p there = anew.held p (there_in_thread (superblock_pairs r) anew.front p begun there)

  pairs_of_both : superblock_pairs (reading_of g) ≡ superblock_pairs r
  pairs_of_both = pairs_same r (reading_of g) (anew.size ∙ sym reads.size) (anew.count ∙ sym reads.count) agree_there

  held_there : (p : Pair) → Contains anew.front p → Contains (superblock_pairs r) p → stored_part_of f p ≡ (one_superblock r).part p
  held_there p there among = is.held p (subst (λ (ps : List Pair). Contains ps p) (sym pairs_of_both) among)
      ∙ as_one_same r (reading_of g) (anew.size ∙ sym reads.size) (anew.count ∙ sym reads.count) agree_there p (anew.held p there)

  named_both : (b : ℕ) → pairs_name b anew.front ≡ pairs_name b (superblock_pairs r) + pairs_name b begun.0
  named_both b = ap (pairs_name b) begun.1 ∙ sum_by-append (pair_names b) (superblock_pairs r) begun.0

  -- a block that is named behind them is none of theirs
  named_behind : (b : ℕ) → 0 < pairs_name b begun.0 → pairs_name b (superblock_pairs r) ≡ 0
  named_behind b some = omega (arith, named_both b, some, anew.is_front.once b)

  block_stays : (b : ℕ) → pairs_name b (superblock_pairs r) ≡ 0 → block_of f b ≡ block_of g b
  block_stays b none = is.others b (ap (pairs_name b) pairs_of_both ∙ none)

  held_behind : (p : Pair) → Contains anew.front p → Contains begun.0 p → stored_part_of f p ≡ (one_superblock r).part p
  held_behind p there behind =
      let named = pairs_name_both begun.0 p behind in
      (same_parts f g p (block_stays p.0 (named_behind p.0 named.0), block_stays p.1 (named_behind p.1 named.1))).2
      ∙ anew.held p there
      ∙ sym (as_it_was r p (r.part p) (not_among p (superblock_pairs r) (named_behind p.0 named.0)))

  held_anew : (p : Pair) → Contains anew.front p → stored_part_of f p ≡ (one_superblock r).part p
  held_anew p there = elim (Contains-append_cases (superblock_pairs r) begun.0 p (subst (λ (ps : List Pair). Contains ps p) begun.1 there)) [
    | inl among ↦ held_there p there among
    | inr behind ↦ held_behind p there behind
  ]

  named_by_front : (b : ℕ) → pairs_name b anew.front ≡ 0 → pairs_name b (superblock_pairs r) ≡ 0
  named_by_front b none = omega (arith, named_both b, none)

  pub joined_is_anew : IsSpelledAnew d (one_superblock r) f
  joined_is_anew = record {
    disk = is.disk;
    size = is.size ∙ anew.size;
    count = is.count ∙ anew.count;
    front = anew.front;
    is_front = front_alike r (one_superblock r) anew.front refl (steps_to_one r anew.front) anew.is_front;
    longest = λ p h. anew.longest p (front_alike (one_superblock r) r (anew.front ++ p ∷ []) refl (steps_from_one r (anew.front ++ p ∷ [])) h);
    held = held_anew;
    others = λ b none. block_stays b (named_by_front b none) ∙ anew.others b none;
  }

-- a reading with one superblock differs in parts alone
pub reads_one : (d : Disk) (r : Reading) → ReadsBlocks d r → ReadsBlocks d (one_superblock r)
reads_one d r reads = record { size = reads.size; count = reads.count; chain = reads.chain; content = reads.content }
