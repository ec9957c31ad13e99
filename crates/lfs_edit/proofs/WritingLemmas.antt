-- What is owed where an outline that is ready and cut is written.
use Rattle.std.proofs.Common.{◌≡◌, ◌≢◌, ◌<◌, ◌≤◌, ◌++◌, ℕ, Bool, List, [], ◌∷◌, length, map, take, refl, ap, sym, ◌∙◌, subst, arith}
use Rattle.std.specs.Prelude.{All, AllPairs}
use Rattle.std.proofs.lemmas.List.{length-take-le, take-take}
use Rattle.lfs_block.specs.Change.{Change}
use Rattle.lfs_block.specs.Disk.{Disk, IsDisk, resized}
use Rattle.lfs_block.specs.Geometry.{IsGeometry}
use Rattle.lfs_block.specs.Patch.{AgreesOld, IsGrowth}
use Rattle.lfs_block.specs.PatchLaws.{IsDiskOf, IsKeptPatch, kept}
use Rattle.lfs_meta.specs.Body.{Pair}
use Rattle.lfs_fs.specs.Directory.{Part}
use Rattle.lfs_fs.specs.Free.{free_blocks}
use Rattle.lfs_fs.specs.Outlined.{outlined}
use Rattle.lfs_fs.specs.Holds.{Holds}
use Rattle.lfs_fs.specs.Reading.{reading_of}
use Rattle.lfs_fs.specs.Sound.{AreAttributes}
use Rattle.lfs_fs.specs.Stored.{HoldsLinks, SaysVolume}
use Rattle.lfs_fs.specs.Superblock.{IsLimits}
use Rattle.lfs_pair.specs.Difference.{Forced}
use Rattle.lfs_fs.specs.Thread.{Link, links}
use Rattle.lfs_fs.specs.Uses.{times}
use Rattle.lfs_fs.specs.Volume.{Volume}
use Rattle.lfs_command.specs.Accepted.{Follows}
use Rattle.lfs_edit.specs.Carried.{IsCutReady, WritesOver, supplies_of}
use Rattle.lfs_edit.specs.CarryingLaws.{CarryingLaws, WritingLaws}
use Rattle.lfs_command.specs.Command.{Command}
use Rattle.lfs_command.specs.Cut.{cut}
use Rattle.lfs_law.specs.CommandsSet.{CommandsSetAPart}
use Rattle.lfs_law.specs.CutOutline.{for_parts}
use Rattle.lfs_law.specs.CutWritten.{CutLinksCanBeAdded}
use Rattle.lfs_law.specs.Lengthened.{HoldsParts, with_count}
use Rattle.lfs_command.specs.Edited.{edited}
use Rattle.lfs_write.specs.Laid.{AreLaidFor}
use Rattle.lfs_command.specs.PairChanged.{forced_by}
use Rattle.lfs_command.specs.Growth.{count_after, grown}
use Rattle.lfs_command.specs.Verdict.{checks, room_checks}
use Rattle.lfs_command.specs.Need.{changed_parts, data_blocks, is_new_to, need}
use Rattle.lfs_law.specs.PairWritten.{CanBeAdded}
use Rattle.lfs_law.specs.PlansHold.{is_unmarked, rewritten_blocks}
use Rattle.lfs_command.specs.Supplies.{Supplies}
use Rattle.lfs_law.specs.SuperblockBytes.{volume_bytes}
use Rattle.lfs_law.specs.WrittenLinks.{AreWritten, ChangesLinks, changed_blocks, number_in}
use Rattle.lfs_edit.proofs.CarryingLemmas.{IsLong, IsTaken, taken_of, within_need}
use Rattle.lfs_law.proofs.Verdicts.{front_passes}
use Rattle.lfs_law.proofs.FreeBlocks.{taken_below, taken_rise}
use Rattle.lfs_law.proofs.FrugalPlans.{changed_named, enough_free, one_is}
use Rattle.lfs_law.proofs.KeptPatches.{grown_agrees, grown_growth, grown_patch}
use Rattle.lfs_law.proofs.LinksAdded.{times_append, times_cons}

-- ---- the blocks of the contents

-- they are the least free ones
pub contents_are : (v : Volume) (c : Command) (used : List Bool) (blocks : List ℕ) (w : Volume) (cut' : IsCutReady v c used blocks w)
    → take (data_blocks v c) blocks ≡ take (data_blocks v c) (free_blocks (grown c v))
contents_are v c used blocks w cut' =
    ap (take (data_blocks v c)) cut'.ready.least ∙ take-take (data_blocks v c) (need v c) (free_blocks (grown c v)) (omega (arith, within_need v c))

-- so they rise, are the volume's, and as many as the contents take
pub contents_rise : (v : Volume) (c : Command) (used : List Bool) (blocks : List ℕ) (w : Volume) (cut' : IsCutReady v c used blocks w)
    (count : ℕ)
    → count ≡ data_blocks v c → AllPairs ◌<◌ (take count blocks)
contents_rise v c used blocks w cut' count is =
    rw (is, contents_are v c used blocks w cut') (taken_rise (grown c v) (data_blocks v c))

pub contents_below : (v : Volume) (c : Command) (used : List Bool) (blocks : List ℕ) (w : Volume) (cut' : IsCutReady v c used blocks w)
    (count : ℕ)
    → count ≡ data_blocks v c → All (λ b. b < count_after c v.count) (take count blocks)
contents_below v c used blocks w cut' count is =
    rw (is, contents_are v c used blocks w cut') (taken_below (grown c v) (data_blocks v c))

pub contents_many : (v : Volume) (c : Command) (used : List Bool) (blocks : List ℕ) (w : Volume) (cut' : IsCutReady v c used blocks w)
    (count : ℕ)
    → count ≡ data_blocks v c → length (take count blocks) ≡ count
contents_many v c used blocks w cut' count is =
    ap (λ (k : ℕ). length (take k blocks)) is ∙ ap length (contents_are v c used blocks w cut')
    ∙ length-take-le (data_blocks v c) (free_blocks (grown c v)) (omega (arith, within_need v c, enough_free v c cut'.ready.unrefused))
    ∙ sym is

-- ---- a patch of what is written

none_changed : (cs : List Change) → cs ≡ [] → (n : ℕ) → times n (changed_blocks cs) ≡ 0
none_changed cs none n = ap (λ (xs : List Change). times n (changed_blocks xs)) none

times_first : (n : ℕ) (ns : List ℕ) → 1 ≤ times n (n ∷ ns)
times_first n ns = omega (arith, times_cons n n ns, one_is n n refl)

-- ---- all together

-- what is known of such an outline, and of the image as the command lengthens it
pub record IsAtHand (d : Disk) (c : Command) (v w : Volume) (chosen : Part → List Pair) : Type 0 where
  pub all : IsTaken v c chosen w
  pub held : HoldsLinks (reading_of d) v
  pub fits : IsGeometry d.size (count_after c d.count)
  pub more : d.count ≤ count_after c d.count
  pub is : IsDiskOf v.size (count_after c v.count) (resized (count_after c d.count) d)
  pub parts : HoldsParts (reading_of (resized (count_after c d.count) d)) (grown c v) (volume_bytes v)
  pub says : SaysVolume w (volume_bytes w)
  pub root : AreAttributes w.limits.attribute w.attributes

pub at_hand : (laws : CarryingLaws) → WritingLaws → (d : Disk) → IsDisk d → (v : Volume) → Holds (reading_of d) v
    → (c : Command) (used : List Bool) (blocks : List ℕ) (w : Volume) (ready : IsCutReady v c used blocks w)
    → IsAtHand d c v w (for_parts ready.cuts.chosen)
at_hand laws hand d disk v holds c used blocks w ready = record {
  all = all;
  held = held;
  fits = fits;
  more = more;
  is = record { disk = hand.resized d n disk fits; size = sym held.size; count = ap (count_after c) (sym held.count) };
  parts = parts;
  says = subst (λ (x : Volume). SaysVolume x (volume_bytes x)) all.same said;
  root = subst (λ (x : Volume). AreAttributes x.limits.attribute x.attributes) all.same follows.sound.root_attributes;
}
  where
    n : ℕ
    n = count_after c d.count

    chosen : Part → List Pair
    chosen = for_parts ready.cuts.chosen

    all : IsTaken v c chosen w
    all = taken_of laws v c used blocks ready.before w ready.ready ready.cuts

    held : HoldsLinks (reading_of d) v
    held = laws.by_links (reading_of d) v holds

    after : Volume
    after = cut chosen (edited v c (supplies_of v c))

    follows : Follows v c after
    follows = laws.follow v c (supplies_of v c) chosen all.accepted all.pairs

    grows : IsGeometry v.size (count_after c v.count) × (v.count ≤ count_after c v.count)
    grows = hand.grow v c ready.ready.holdable.fits (front_passes (checks v c) (room_checks v c) ready.ready.unrefused)

    fits : IsGeometry d.size n
    fits = subst (λ (k : ℕ). IsGeometry k n) held.size (subst (λ (k : ℕ). IsGeometry v.size (count_after c k)) held.count grows.0)

    more : d.count ≤ n
    more = subst (λ (k : ℕ). k ≤ count_after c k) held.count grows.1

    parts : HoldsParts (reading_of (resized n d)) (grown c v) (volume_bytes v)
    parts = subst (HoldsParts (reading_of (resized n d)) (grown c v)) (hand.made d v held disk ready.ready.holdable.sound)
        (subst (λ (k : ℕ). HoldsParts (reading_of (resized n d)) (with_count (count_after c k) v) held.bytes) (sym held.count)
        (hand.long d v held n disk ready.ready.holdable.sound fits more))

    limits : IsLimits after.limits
    limits = subst IsLimits (sym follows.limits) ready.ready.holdable.limits

    said : SaysVolume (outlined after) (volume_bytes (outlined after))
    said =
        hand.say (outlined after) (omega (arith, follows.size, grows.0.size_fits.1))
        (omega (arith, follows.count, grows.0.count_fits.1)) limits

-- its links can be written behind changes that lay what the command puts into the blocks of its supplies
pub can_be_added : CutLinksCanBeAdded → (d e : Disk)
    → (v : Volume) (c : Command) (used : List Bool) (blocks : List ℕ) (w : Volume) (ready : IsCutReady v c used blocks w)
    → IsAtHand d c v w (for_parts ready.cuts.chosen) → e ≡ resized (count_after c d.count) d → (base : List Change)
    → AreLaidFor e v c (supplies_of v c) base
    → CanBeAdded e (volume_bytes w) w.attributes (is_unmarked used) base (links w.directories)
can_be_added can d e v c used blocks w ready known is base laid =
    let chosen : Part → List Pair = for_parts ready.cuts.chosen in
    subst (λ (x : Volume). CanBeAdded e (volume_bytes w) x.attributes (is_unmarked used) base (links x.directories)) known.all.same
    (can e v c (supplies_of v c) chosen (volume_bytes w) used base
    (subst (IsDiskOf v.size (count_after c v.count)) (sym is) known.is) known.says.len known.all.accepted known.all.pairs
    ready.ready.marks laid.rising laid.made laid.contents)

-- the pairs are changed by the table that is at hand, and by what the command forces
pub changed_by : (d : Disk) (ls : List Link) (cs : List Change) {seen used : List Bool} {told forced : Forced} → seen ≡ used → told ≡ forced
    → ChangesLinks d (is_unmarked seen) told ls cs → ChangesLinks d (is_unmarked used) forced ls cs
changed_by d ls cs {seen} {used} {told} {forced} same is changed =
    subst (λ (f : Forced). ChangesLinks d (is_unmarked used) f ls cs) is
    (subst (λ (flags : List Bool). ChangesLinks d (is_unmarked flags) told ls cs) same changed)

-- what is written then over the image as the command lengthens it
pub record IsWritten (d : Disk) (c : Command) (used : List Bool) (v w : Volume) (cs : List Change) : Type 0 where
  pub long : IsLong d v c (grown_patch d.size d.count (count_after c d.count) cs)
  pub writes : WritesOver (resized (count_after c d.count) d) v c used w (kept (grown_patch d.size d.count (count_after c d.count) cs))

pub is_written : (laws : CarryingLaws) → WritingLaws → CommandsSetAPart → (d : Disk) → IsDisk d
    → (v : Volume) (c : Command) (used : List Bool) (blocks : List ℕ) (w : Volume) (ready : IsCutReady v c used blocks w)
    → IsAtHand d c v w (for_parts ready.cuts.chosen) → (base cs : List Change)
    → AreLaidFor (resized (count_after c d.count) d) v c (supplies_of v c) base
    → AreWritten (resized (count_after c d.count) d) (volume_bytes w) w.attributes (is_unmarked used) base (links w.directories) cs
    → ChangesLinks (resized (count_after c d.count) d) (is_unmarked used) (forced_by c) (links w.directories) cs
    → IsWritten d c used v w cs
is_written laws hand some d disk v c used blocks w ready known base cs laid written changed = record {
  long = record {
    growth = growth;
    stands = stands;
    count = refl;
    is = known.is;
    parts = known.parts;
    same = turned.same;
  };
  writes = record {
    patch = turned.patch;
    stands = turned.stands;
    keeps = refl;
    base = base;
    contents = laid.contents;
    lays = laid.lays;
    written = written;
    changed = changed;
  };
}
  where
    s : Supplies
    s = supplies_of v c

    n : ℕ
    n = count_after c d.count

    e : Disk
    e = resized n d

    chosen : Part → List Pair
    chosen = for_parts ready.cuts.chosen

    after : Volume
    after = cut chosen (edited v c s)

    old : AreWritten e (volume_bytes w) after.attributes (is_new_to v) base (links (outlined after).directories) cs
    old =
        laws.tell v used ready.ready.marks e (volume_bytes w) after.attributes base (links (outlined after).directories) cs
        (subst (λ (x : Volume). AreWritten e (volume_bytes w) x.attributes (is_unmarked used) base (links x.directories) cs)
        (sym known.all.same) written)

    named : (m : ℕ) → times m (changed_blocks cs) ≡ times m (take (need v c) (free_blocks (grown c v)) ++ rewritten_blocks cs v (edited v c s))
    named = changed_named e v c s chosen (volume_bytes w) after.attributes base cs known.all.accepted known.all.pairs known.all.taken
        laid.contents old

    by : (ps : List Part) → changed_parts v (edited v c s) ≡ ps → 1 ≤ length ps → cs ≡ [] → ⊥
    by [] is many none = absurd (omega (arith, many))
    by (p ∷ ps) is many none =
        let m : ℕ = number_in cs p.pair in
        let there : rewritten_blocks cs v (edited v c s) ≡ m ∷ map (λ (q : Part). number_in cs q.pair) ps =
        ap (map (λ (q : Part). number_in cs q.pair)) is in
        absurd (omega (
          arith,
          named m,
          none_changed cs none m,
          times_append m (take (need v c) (free_blocks (grown c v))) (rewritten_blocks cs v (edited v c s)),
          ap (times m) there,
          times_first m (map (λ (q : Part). number_in cs q.pair) ps),
        ))

    something : cs ≢ []
    something = by (changed_parts v (edited v c s)) refl (some v c s known.all.accepted)

    growth : IsGrowth (grown_patch d.size d.count n cs)
    growth = grown_growth d n cs disk known.fits known.more something written.rising written.made

    stands : AgreesOld (grown_patch d.size d.count n cs) d
    stands = grown_agrees d n cs disk known.more written.made

    turned : IsKeptPatch (grown_patch d.size d.count n cs) d (kept (grown_patch d.size d.count n cs)) e
    turned = hand.kept (grown_patch d.size d.count n cs) d disk growth stands

-- one patch, by its numbers
pub same_grown : (cs : List Change) {size of_size before of_before after of_after : ℕ} → size ≡ of_size → before ≡ of_before
    → after ≡ of_after → grown_patch size before after cs ≡ grown_patch of_size of_before of_after cs
same_grown cs a b c = rw (a, b, c) refl
