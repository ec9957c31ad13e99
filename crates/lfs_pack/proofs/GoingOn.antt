-- A command of a row leads from an image that isn't written yet to another one.
use Rattle.std.proofs.Common.{◌≡◌, ◌≢◌, ◌<◌, ◌≤◌, ◌+◌, ℕ, Bool, true, false, List, [], ◌∷◌, length, map, take, refl, ap, sym, ◌∙◌, subst, arith, inl, inr}
use Rattle.std.specs.Prelude.{All, AllPairs, Contains, if◌then◌else◌, nat_le, replicate, sum_by}
use Rattle.std.proofs.lemmas.List.Elements.{All-append, All-cons, All-contains, All-contains_itself, All-nil, All-weaker}
use Rattle.lfs_block.specs.Disk.{Disk, IsDisk, block_of}
use Rattle.lfs_block.specs.Geometry.{IsGeometry}
use Rattle.lfs_file.specs.Capacity.{least_blocks}
use Rattle.lfs_file.specs.Laws.{ContentStays, FoundStay, LaidIsContent, LaidIsFound}
use Rattle.lfs_file.specs.Laying.{IsLaid, laid}
use Rattle.lfs_meta.specs.Attribute.{Attributes}
use Rattle.lfs_meta.specs.Body.{Pair}
use Rattle.lfs_meta.specs.RunLaws.{RunsJoin}
use Rattle.lfs_fs.specs.AsStored.{head_of}
use Rattle.lfs_fs.specs.Directory.{Directory, Part, parts, thread}
use Rattle.lfs_fs.specs.Entry.{Chain, Entry, Inline}
use Rattle.lfs_fs.specs.Free.{free_blocks}
use Rattle.lfs_fs.specs.Reading.{Reading, reading_of}
use Rattle.lfs_fs.specs.Superblock.{IsLimits}
use Rattle.lfs_fs.specs.Uses.{part_uses, times, uses}
use Rattle.lfs_fs.specs.Volume.{Volume}
use Rattle.lfs_fs.specs.Weight.{superblock_weight}
use Rattle.lfs_fs.proofs.CountLemmas.{element_le}
use Rattle.lfs_command.specs.Accepted.{Follows}
use Rattle.lfs_command.specs.Clean.{IsClean, clean, cleaned}
use Rattle.lfs_command.specs.Command.{Command, Grow, Mkdir, Mv, Put, Rm, RmAttr, SetAttr}
use Rattle.lfs_command.specs.Cut.{cut, is_first, new_pair_uses, new_pairs, room}
use Rattle.lfs_command.specs.DirectoryEdit.{each_part}
use Rattle.lfs_command.specs.Edited.{edited}
use Rattle.lfs_command.specs.Freed.{freed_uses}
use Rattle.lfs_command.specs.Growth.{count_after, grown}
use Rattle.lfs_command.specs.Need.{data_blocks}
use Rattle.lfs_command.specs.Planned.{CarriesOut, HasLaid}
use Rattle.lfs_command.specs.Supplies.{Supplies, inline_limit, supply_uses}
use Rattle.lfs_law.specs.Laws.{CleansFollow, CutsFollow, UsesAfter}
use Rattle.lfs_law.specs.OutlineLaws.{IsThere}
use Rattle.lfs_law.specs.PlansHold.{content_blocks}
use Rattle.lfs_law.proofs.Cleans.{clean_uses_all}
use Rattle.lfs_law.proofs.FreeBlocks.{taken_below, taken_rise}
use Rattle.lfs_law.proofs.KnownBodies.{OfNew}
use Rattle.lfs_law.proofs.LaidContents.{head_is}
use Rattle.lfs_law.proofs.LeastBlocks.{none_or_some}
use Rattle.lfs_law.proofs.LinksAdded.{second_used}
use Rattle.lfs_law.proofs.NamedBlocks.{supplies_once}
use Rattle.lfs_law.proofs.WrittenLemmas.{pair_used, sum_thread}
use Rattle.lfs_edit.specs.Carried.{IsHoldable}
use Rattle.lfs_pack.specs.NewImages.{AllAreLaid}
use Rattle.lfs_pack.specs.OutlinesTaken.{FitsNewPair, front_weight}
use Rattle.lfs_pack.specs.Unwritten.{AreThere, CommandsGoOn, IsOfRow, IsReadyToWrite, LaysAndErases}
use Rattle.lfs_pack.proofs.FitParts.{FitsRoom, left_fit}
use Rattle.lfs_pack.proofs.KnownParts.{Known, OfNewPair, left_known}
use Rattle.lfs_pack.proofs.LaidBodies.{new_laid}
use Rattle.lfs_pack.proofs.StillThere.{bodies_kept, carried_laid, carried_there, laid_kept, still_there}

-- the laws that this stands on
pub record GoingLaws : Type 0 where
  pub cuts : CutsFollow
  pub cleans : CleansFollow
  pub after : UsesAfter
  pub join : RunsJoin Entry
  pub stay : FoundStay
  pub content : ContentStays
  pub laid_found : LaidIsFound
  pub laid_content : LaidIsContent

-- commands of rows keep the number of blocks
pub same_count : (c : Command) (n : ℕ) → IsOfRow c → count_after c n ≡ n
same_count (Mkdir p) n row = refl
same_count (Put p bytes most) n row = refl
same_count (SetAttr p k value) n row = refl
same_count (Rm p) n row = absurd row
same_count (Mv p q) n row = absurd row
same_count (RmAttr p k) n row = absurd row
same_count (Grow m) n row = absurd row

-- a directory's new pair is of its supplies, and nothing is laid
made_pair : (Q : Pair → ℕ → Type 0) (v : Volume) (c : Command) (s : Supplies)
    → (1 ≤ supply_uses v c s s.pair.1 → times s.pair.1 (content_blocks v c s) ≡ 0 → Q s.pair 0) → OfNewPair Q c s
made_pair Q v (Mkdir p) s new = new (second_used s.pair) refl
made_pair Q v (Put p bytes most) s new = tt
made_pair Q v (Rm p) s new = tt
made_pair Q v (Mv p q) s new = tt
made_pair Q v (SetAttr p k value) s new = tt
made_pair Q v (RmAttr p k) s new = tt
made_pair Q v (Grow n) s new = tt

-- a file's new contents are there
body_by : (r : Reading) (bytes blocks : List ℕ) (t : Bool) → (t ≡ false → IsThere r (Chain blocks bytes))
    → IsThere r (if t then Inline bytes else Chain blocks bytes)
body_by r bytes blocks true there = tt
body_by r bytes blocks false there = there refl

new_there : LaidIsFound → LaidIsContent → (f : Disk) (v : Volume) (c : Command) (s : Supplies) → IsDisk f → f.size ≡ v.size
    → HasLaid v c s f → length s.blocks ≡ data_blocks v c → All (λ b. b < f.count) s.blocks → AllPairs ◌≢◌ s.blocks
    → OfNew (IsThere (reading_of f)) v c s
new_there found content f v (Mkdir p) s disk size has many below apart = tt
new_there found content f v (Rm p) s disk size has many below apart = tt
new_there found content f v (Mv p q) s disk size has many below apart = tt
new_there found content f v (SetAttr p k value) s disk size has many below apart = tt
new_there found content f v (RmAttr p k) s disk size has many below apart = tt
new_there found content f v (Grow n) s disk size has many below apart = tt
new_there found content f v (Put p bytes most) s disk size has many below apart =
    body_by (reading_of f) bytes s.blocks (nat_le (length bytes) (inline_limit v.size most)) (λ chain.
    let count : length s.blocks ≡ least_blocks v.size (length bytes) =
    many ∙ ap (λ (t : Bool). if t then 0 else least_blocks v.size (length bytes)) chain in
    let is : IsLaid f (head_of s.blocks) bytes s.blocks = record {
      count = count ∙ ap (λ (n : ℕ). least_blocks n (length bytes)) (sym size);
      last = head_is s.blocks;
      below = below;
      apart = apart;
      same = has chain;
    } in
    (found f (head_of s.blocks) bytes s.blocks disk is, sym (content f (head_of s.blocks) bytes s.blocks disk is)))

differ : (bs : List ℕ) → AllPairs ◌<◌ bs → AllPairs ◌≢◌ bs
differ bs rise i j d less within = λ same. let lt = rise i j d less within in omega (arith, lt, same)

clean_parts : (ps : List Part) → All (λ p. p.dirty ≡ false) (map cleaned ps)
clean_parts [] = All-nil (λ (p : Part). p.dirty ≡ false)
clean_parts (p ∷ ps) = All-cons (λ (q : Part). q.dirty ≡ false) (cleaned p) (map cleaned ps) refl (clean_parts ps)

clean_clean : (y : Volume) → IsClean (clean y)
clean_clean y = by y.directories
  where
    by : (ds : List Directory) → All (λ p. p.dirty ≡ false) (thread (map (each_part cleaned) ds))
    by [] = All-nil (λ (p : Part). p.dirty ≡ false)
    by (g ∷ ds) = All-append (λ (p : Part). p.dirty ≡ false) (map cleaned (parts g)) (thread (map (each_part cleaned) ds)) (clean_parts (parts g)) (by ds)

-- ---- one command

module _ (laws : GoingLaws) (v w : Volume) (c : Command) (carries : CarriesOut c v w) (d laid e : Disk) (row : IsOfRow c)
    (work : IsReadyToWrite d v) (lays : LaysAndErases v w c carries d laid e) where
  abbrev s : Supplies
  s = carries.supplies

  abbrev x : Volume
  x = edited v c s

  abbrev left : Volume
  left = cut carries.chosen x

  cut_follows : Follows v c left
  cut_follows = laws.cuts v c s carries.chosen carries.accepted carries.pairs

  follows : Follows v c w
  follows = subst (Follows v c) (sym carries.is) (laws.cleans v left c cut_follows)

  count : w.count ≡ v.count
  count = follows.count ∙ same_count c v.count row

  e_size : e.size ≡ d.size
  e_size = lays.left.disk.size ∙ lays.others.disk.size

  e_count : e.count ≡ d.count
  e_count = lays.left.disk.count ∙ lays.others.disk.count

  -- ---- blocks

  uses_are : (b : ℕ) → uses b w + freed_uses v c b ≡ uses b v + supply_uses v c s b + new_pair_uses carries.chosen x b
  uses_are b = omega (
    arith,
    ap (uses b) carries.is,
    clean_uses_all b left,
    laws.after v c s carries.chosen carries.accepted carries.pairs b,
  )

  -- what is used isn't laid over
  unlaid : (b : ℕ) → 0 < uses b v → times b (content_blocks v c s) ≡ 0
  unlaid b used = omega (arith, used, supplies_once v c s b, carries.accepted.free.once b)

  -- what the command leaves isn't given back
  unfreed : (b : ℕ) → 0 < uses b w → times b lays.gone ≡ 0
  unfreed b used = omega (arith, used, uses_are b, carries.pairs.once b, lays.are b)

  -- what isn't laid over stays erased
  stays : (b : ℕ) → times b (content_blocks v c s) ≡ 0 → block_of d b ≡ replicate d.size 0xff → block_of e b ≡ replicate e.size 0xff
  stays b none erased = elim (none_or_some (times b lays.gone)) [
    | inl kept ↦ lays.left.others b kept ∙ lays.others.others b none ∙ erased ∙ ap (λ (n : ℕ). replicate n 0xff) (sym e_size)
    | inr gone ↦ lays.erased b gone
  ]

  -- what nothing used stays erased, where it isn't laid over
  free_stays : (b : ℕ) → b < d.count → uses b v ≡ 0 → times b (content_blocks v c s) ≡ 0 → block_of e b ≡ replicate e.size 0xff
  free_stays b below free none = stays b none (work.erased b below free)

  erased : (b : ℕ) → b < e.count → uses b w ≡ 0 → block_of e b ≡ replicate e.size 0xff
  erased b below free = elim (none_or_some (times b lays.gone)) [
    | inl kept ↦
        free_stays b (omega (arith, below, e_count)) (omega (arith, free, kept, lays.are b, uses_are b))
        (omega (arith, free, kept, lays.are b, uses_are b, supplies_once v c s b))
    | inr gone ↦ lays.erased b gone
  ]

  -- ---- pairs and deltas

  abbrev Fresh : Pair → ℕ → Type 0
  Fresh pair delta = (delta ≡ 0) × (block_of e pair.1 ≡ replicate e.size 0xff)

  old_fresh : All (Known Fresh) (thread v.directories)
  old_fresh =
      All-weaker (Contains (thread v.directories)) (Known Fresh)
      (λ p there.
      let fits : FitsNewPair d v p = All-contains (FitsNewPair d v) (thread v.directories) p work.fit there in
      let used : 0 < uses p.pair.1 v = omega (
        arith,
        (pair_used p).1,
        element_le (part_uses p.pair.1) (thread v.directories) p there,
        sum_thread p.pair.1 v.directories,
      ) in
      (fits.none, stays p.pair.1 (unlaid p.pair.1 used) fits.erased))
      (thread v.directories) (All-contains_itself (thread v.directories))

  new_fresh : OfNewPair Fresh c s
  new_fresh = made_pair Fresh v c s (λ taken none.
      let below : s.pair.1 < d.count = omega
      (arith, carries.accepted.free.within s.pair.1 taken, same_count c v.count row, work.count) in
      (refl, free_stays s.pair.1 below (omega (arith, taken, carries.accepted.free.once s.pair.1)) none))

  chosen_fresh : (p : Part) → Contains (thread x.directories) p → (q : Pair) → Contains (new_pairs carries.chosen p) q → Fresh q 0
  chosen_fresh p there q inside =
      let one : 1 ≤ new_pair_uses carries.chosen x q.1 = omega (
        arith,
        second_used q,
        element_le (λ (y : Pair). times q.1 (y.0 ∷ y.1 ∷ [])) (new_pairs carries.chosen p) q inside,
        element_le (λ (y : Part). sum_by (λ (z : Pair). times q.1 (z.0 ∷ z.1 ∷ [])) (new_pairs carries.chosen y)) (thread x.directories) p there,
      ) in
      let below : q.1 < d.count = omega (arith, carries.pairs.within q.1 one, same_count c v.count row, work.count) in (
        refl,
        free_stays q.1 below (omega (arith, one, carries.pairs.once q.1))
            (omega (arith, one, carries.pairs.once q.1, supplies_once v c s q.1)),
      )

  fresh : All (Known Fresh) (thread w.directories)
  fresh = subst (λ (y : Volume). All (Known Fresh) (thread y.directories)) (sym carries.is)
      (left_known Fresh v c s carries.chosen row new_fresh chosen_fresh old_fresh)

  -- ---- parts

  abbrev InRoom : Part → Type 0
  InRoom = FitsRoom x.attributes (room v)

  in_room : All InRoom (thread w.directories)
  in_room = subst (λ (y : Volume). All InRoom (thread y.directories)) (sym carries.is)
      (left_fit d v c s carries.chosen row carries.accepted carries.pairs cut_follows work.fit)

  attributes : w.attributes ≡ x.attributes
  attributes = ap (λ (y : Volume). y.attributes) carries.is

  fit : All (FitsNewPair e w) (thread w.directories)
  fit =
      All-weaker (Contains (thread w.directories)) (FitsNewPair e w)
      (λ p there.
      let room' = All-contains InRoom (thread w.directories) p in_room there in
      let known = All-contains (Known Fresh) (thread w.directories) p fresh there in
      let front : front_weight w p ≡ (if is_first p then superblock_weight x.attributes else 0) =
      ap (λ (a : Attributes). if is_first p then superblock_weight a else 0) attributes in
      record {
        few = room'.few;
        light = omega (arith, room'.light, front, follows.size);
        none = known.0;
        erased = known.1;
      })
      (thread w.directories) (All-contains_itself (thread w.directories))

  -- ---- contents

  blocks_are : s.blocks ≡ take (data_blocks v c) (free_blocks (grown c v))
  blocks_are = ap (λ (t : Supplies). t.blocks) lays.least

  rise : AllPairs ◌<◌ s.blocks
  rise = subst (AllPairs ◌<◌) (sym blocks_are) (taken_rise (grown c v) (data_blocks v c))

  below : All (λ b. b < laid.count) s.blocks
  below =
      let many : count_after c v.count ≡ laid.count = same_count c v.count row ∙ work.count ∙ sym lays.others.disk.count in
      subst (All (λ b. b < laid.count)) (sym blocks_are)
      (subst (λ (n : ℕ). All (λ b. b < n) (take (data_blocks v c) (free_blocks (grown c v)))) many (taken_below (grown c v) (data_blocks v c)))

  new : OfNew (IsThere (reading_of laid)) v c s
  new = new_there laws.laid_found laws.laid_content laid v c s lays.others.disk.disk (lays.others.disk.size ∙ sym work.size) lays.contents
      carries.blocks below (differ s.blocks rise)

  laid_there : AreThere laid w
  laid_there =
      carried_there laws.join (reading_of laid) v c w carries new
      (bodies_kept laws.stay laws.content d laid v work.disk lays.others.disk.size (omega (arith, lays.others.disk.count))
      (λ b used. lays.others.others b (unlaid b used)) work.there)

  there : AreThere e w
  there =
      still_there laws.stay laws.content laid e w lays.others.disk.disk lays.left.disk.size (omega (arith, lays.left.disk.count))
      (λ b used. lays.left.others b (unfreed b used)) laid_there

  still_laid : AllAreLaid e w
  still_laid =
      laid_kept laid e w lays.left.disk.size (λ b used. lays.left.others b (unfreed b used))
      (carried_laid laws.join laid v c w carries (new_laid laid v c s lays.contents)
      (laid_kept d laid v lays.others.disk.size (λ b used. lays.others.others b (unlaid b used)) work.laid))

  -- ---- the whole

  holdable : IsHoldable w
  holdable = record {
    sound = follows.sound;
    clean = subst IsClean (sym carries.is) (clean_clean left);
    limits = subst IsLimits (sym follows.limits) work.holdable.limits;
    fits = subst (λ (n : ℕ). IsGeometry n w.count) (sym follows.size) (subst (IsGeometry v.size) (sym count) work.holdable.fits);
    few = All-weaker (FitsNewPair e w) (λ (p : Part). length p.entries ≤ 65536) (λ p is. omega (arith, is.few)) (thread w.directories) fit;
  }

  pub goes_on : IsReadyToWrite e w
  goes_on = record {
    disk = lays.left.disk.disk;
    size = follows.size ∙ work.size ∙ sym e_size;
    count = count ∙ work.count ∙ sym e_count;
    holdable = holdable;
    fit = fit;
    erased = erased;
    there = there;
    laid = still_laid;
  }

pub commands_go_on : GoingLaws → CommandsGoOn
commands_go_on laws v w c carries d laid e row work lays = goes_on laws v w c carries d laid e row work lays
