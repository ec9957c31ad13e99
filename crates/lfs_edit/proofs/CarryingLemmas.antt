-- A patch that writes what a command leaves of an outline carries the command out.
use Rattle.std.proofs.Common.{◌≡◌, ◌+◌, ◌<◌, ◌≤◌, ℕ, Bool, List, [], ◌∷◌, ◌++◌, length, map, take, drop, refl, ap, sym, ◌∙◌, subst}
use Rattle.std.proofs.Common.{arith, Option}
use Rattle.std.proofs.lemmas.List.{length-take-le}
use Rattle.lfs_block.specs.Disk.{Disk, resized}
use Rattle.lfs_block.specs.Patch.{AgreesOld, ChangeSet, IsGrowth, applied}
use Rattle.lfs_block.specs.PatchLaws.{IsDiskOf, kept}
use Rattle.lfs_meta.specs.Body.{Pair}
use Rattle.lfs_fs.specs.Directory.{Directory, Part}
use Rattle.lfs_fs.specs.Free.{free_blocks}
use Rattle.lfs_fs.specs.Mounted.{IsOutlineOf}
use Rattle.lfs_fs.specs.Outlined.{outlined, outlined_directory, outlined_part}
use Rattle.lfs_fs.specs.Reading.{reading_of}
use Rattle.lfs_fs.specs.Holds.{Holds}
use Rattle.lfs_fs.specs.Stored.{SaysVolume}
use Rattle.lfs_fs.specs.Thread.{links}
use Rattle.lfs_fs.specs.Uses.{times, uses}
use Rattle.lfs_fs.specs.Volume.{Volume}
use Rattle.lfs_command.specs.Accepted.{AreChosen, Follows, IsAccepted}
use Rattle.lfs_draft.specs.LeastSupplies.{made_blocks}
use Rattle.lfs_edit.specs.Carried.{IsCarriedOnOutline, IsCutOver, IsCutReady, IsFinished, IsReady, WritesOver, supplies_of}
use Rattle.lfs_edit.specs.CarryingLaws.{CarryingLaws}
use Rattle.lfs_command.specs.Clean.{clean, cleaned}
use Rattle.lfs_command.specs.Command.{Asked, Command, Spells}
use Rattle.lfs_command.specs.Cut.{cut, new_pair_uses}
use Rattle.lfs_law.specs.CutOutline.{for_parts}
use Rattle.lfs_command.specs.DirectoryEdit.{each_part}
use Rattle.lfs_command.specs.Edited.{edited}
use Rattle.lfs_command.specs.Freed.{freed_uses}
use Rattle.lfs_command.specs.Growth.{count_after, grown}
use Rattle.lfs_command.specs.Need.{data_blocks, is_new_to, need}
use Rattle.lfs_command.specs.Ordered.{TakesInOrder, blocks_chosen, leader, overflowing_led}
use Rattle.lfs_law.specs.Lengthened.{HoldsParts}
use Rattle.lfs_law.specs.OutlineCarried.{IsCarried}
use Rattle.lfs_law.specs.OutlineLaws.{WritesOutline}
use Rattle.lfs_command.specs.Planned.{CarriesOut, FillsNewPairs, HasLaid, IsFrugal, Plans, TakesLeast}
use Rattle.lfs_command.specs.PairChanged.{ChangesPairs, forced_by}
use Rattle.lfs_law.specs.PlansHold.{is_unmarked}
use Rattle.lfs_law.specs.PlansWritten.{NewIsThere, WritesCommand}
use Rattle.lfs_command.specs.Supplies.{AreFree, Supplies, supply_uses}
use Rattle.lfs_law.specs.SuperblockBytes.{volume_bytes}
use Rattle.lfs_law.specs.WrittenLinks.{AreWritten, ChangesLinks, changed_blocks}
use Rattle.lfs_law.proofs.FrugalPlans.{enough_free}
use Rattle.lfs_law.proofs.LeastTaken.{least_taken}
use Rattle.lfs_edit.proofs.OrderLemmas.{chosen_outlined, front_and_back, made_first}

-- ---- marks are taken off an outline as off its volume

parts_cleaned : (ps : List Part) → map outlined_part (map cleaned ps) ≡ map cleaned (map outlined_part ps)
parts_cleaned [] = refl
parts_cleaned (p ∷ ps) = ap (λ (qs : List Part). outlined_part (cleaned p) ∷ qs) (parts_cleaned ps)

directory_cleaned : (d : Directory) → outlined_directory (each_part cleaned d) ≡ each_part cleaned (outlined_directory d)
directory_cleaned d = ap (λ (ps : List Part). record { first = cleaned (outlined_part d.first); more = ps }) (parts_cleaned d.more)

directories_cleaned : (ds : List Directory) → map outlined_directory (map (each_part cleaned) ds)
    ≡ map (each_part cleaned) (map outlined_directory ds)
directories_cleaned [] = refl
directories_cleaned (d ∷ ds) =
    ap (λ (e : Directory). e ∷ map outlined_directory (map (each_part cleaned) ds)) (directory_cleaned d)
    ∙ ap (λ (es : List Directory). each_part cleaned (outlined_directory d) ∷ es) (directories_cleaned ds)

pub outlined_clean : (w : Volume) → outlined (clean w) ≡ clean (outlined w)
outlined_clean w =
    ap (λ (ds : List Directory). record { size = w.size; count = w.count; limits = w.limits; attributes = w.attributes; directories = ds })
    (directories_cleaned w.directories)

-- ---- the blocks that a command takes

pub within_need : (v : Volume) (c : Command) → made_blocks v c ≤ need v c
within_need v c = omega arith

-- ---- the whole

-- the superblock's bytes are those of the outline
pub same_bytes : (w : Volume) → volume_bytes (outlined w) ≡ volume_bytes w
unfolding volume_bytes
same_bytes w = refl

-- A command that is ready takes the least free blocks in order, and is accepted; the outline is that of what it leaves, cut.
pub record IsTaken (v : Volume) (c : Command) (chosen : Part → List Pair) (w : Volume) : Type 0 where
  pub ordered : TakesInOrder v c (supplies_of v c) chosen
  pub taken : TakesLeast v c (supplies_of v c) chosen
  pub accepted : IsAccepted v c (supplies_of v c)
  pub pairs : AreChosen v c (supplies_of v c) chosen
  pub same : outlined (cut chosen (edited v c (supplies_of v c))) ≡ w

pub taken_of : (laws : CarryingLaws) (v : Volume) (c : Command) (used : List Bool) (blocks : List ℕ) (o w : Volume)
    (ready : IsReady v c used blocks o)
    (cuts : IsCutOver (leader v c (supplies_of v c)) o (drop (made_blocks v c) blocks) w)
    → IsTaken v c (for_parts cuts.chosen) w
taken_of laws v c used blocks o w ready cuts = record {
  ordered = ordered;
  taken = taken;
  accepted = accepted;
  pairs = pairs;
  same = carried.after ∙ sym cuts.is;
}
  where
    s : Supplies
    s = supplies_of v c

    chosen : Part → List Pair
    chosen = for_parts cuts.chosen

    carried : IsCarried v c s cuts.chosen o
    carried = subst (IsCarried v c s cuts.chosen) (sym ready.outline) (laws.carried v c s cuts.chosen)

    enough : need v c ≤ length (free_blocks (grown c v))
    enough = enough_free v c ready.unrefused

    ordered : TakesInOrder v c s chosen
    ordered =
        let free : List ℕ = free_blocks (grown c v) in
        let leading : Option Pair = leader v c s in
        let behind : blocks_chosen chosen (overflowing_led leading (edited v c s)) ≡ drop (made_blocks v c) (take (need v c) free) =
        chosen_outlined cuts.chosen leading (edited v c s)
        ∙ ap (λ (x : Volume). blocks_chosen cuts.chosen (overflowing_led leading x)) (laws.outlines v c s ∙ sym ready.outline)
        ∙ cuts.are.ordered ∙ ap (drop (made_blocks v c)) ready.least in
        ap (λ (bs : List ℕ). bs ++ blocks_chosen chosen (overflowing_led leading (edited v c s)))
        (made_first v c free (omega (arith, within_need v c, enough)))
        ∙ ap (λ (bs : List ℕ). take (made_blocks v c) free ++ bs) behind
        ∙ front_and_back (made_blocks v c) (need v c) free (within_need v c)

    taken : TakesLeast v c s chosen
    taken = least_taken v c s chosen (carried.enough cuts.are.enough) ordered

    free
        : AreFree v c s
        × ((b : ℕ) → uses b v + supply_uses v c s b + new_pair_uses chosen (edited v c s) b ≤ 1)
        × ((b : ℕ) → 0 < new_pair_uses chosen (edited v c s) b → b < count_after c v.count)
    free = laws.least v c s chosen ready.holdable.sound taken

    accepted : IsAccepted v c s
    accepted = record { sound = ready.holdable.sound; names = ready.names; free = free.0; unrefused = ready.unrefused }

    pairs : AreChosen v c s chosen
    pairs = record { enough = carried.enough cuts.are.enough; once = free.1; within = free.2 }

-- ---- the command is carried out

-- it leads to what is cut, without marks
carries : (v : Volume) (c : Command) (used : List Bool) (blocks : List ℕ) (o w : Volume) (chosen : Part → List Pair)
    → IsReady v c used blocks o → IsTaken v c chosen w → CarriesOut c v (clean (cut chosen (edited v c (supplies_of v c))))
carries v c used blocks o w chosen ready all = record {
  supplies = supplies_of v c;
  blocks = length-take-le (data_blocks v c) (free_blocks (grown c v)) (omega (arith, within_need v c, enough_free v c ready.unrefused));
  accepted = all.accepted;
  chosen = chosen;
  pairs = all.pairs;
  ordered = all.ordered;
  is = refl;
}

pub carried_out : (laws : CarryingLaws) (v : Volume) (c : Command) (used : List Bool) (blocks gone : List ℕ) (o w : Volume) → o ≡ outlined v
    → IsCutReady v c used blocks w → ((b : ℕ) → times b gone ≡ freed_uses o c b) → IsCarriedOnOutline v c blocks gone (clean w)
unfolding carries
carried_out laws v c used blocks gone o w is cut' freed = record {
  after = clean after;
  carried = carries v c used blocks cut'.before w chosen cut'.ready all;
  supplies = refl;
  leaves = ap clean (sym all.same) ∙ sym (outlined_clean after);
  taken = cut'.ready.least;
  gone = λ b. freed b ∙ ap (λ (x : Volume). freed_uses x c b) is ∙ (laws.judged v c).freed b;
}
  where
    chosen : Part → List Pair
    chosen = for_parts cut'.cuts.chosen

    all : IsTaken v c chosen w
    all = taken_of laws v c used blocks cut'.before w cut'.ready cut'.cuts

    after : Volume
    after = cut chosen (edited v c (supplies_of v c))

-- What is known of an image and the patch that is written over it: the image is lengthened for a command, and holds the volume's parts.
pub record IsLong (d : Disk) (v : Volume) (c : Command) (p : ChangeSet) : Type 0 where
  pub growth : IsGrowth p
  pub stands : AgreesOld p d
  pub count : p.after ≡ count_after c p.before
  pub is : IsDiskOf v.size (count_after c v.count) (resized p.after d)
  pub parts : HoldsParts (reading_of (resized p.after d)) (grown c v) (volume_bytes v)
  pub same : applied (kept p) (resized p.after d) ≡ applied p d

pub finish : (laws : CarryingLaws) (d : Disk) (c : Command) (used : List Bool) (blocks : List ℕ) (v o w : Volume) (p : ChangeSet)
    → Holds (reading_of d) v → (ready : IsReady v c used blocks o)
    → IsCutOver (leader v c (supplies_of v c)) o (drop (made_blocks v c) blocks) w
    → IsLong d v c p → SaysVolume w (volume_bytes w)
    → WritesOver (resized p.after d) v c used w (kept p) → IsFinished d c p (clean w)
unfolding carries
finish laws d c used blocks v o w p held ready cuts long says writes = record { plans = plans; outline = outline }
  where
    e : Disk
    e = resized p.after d

    s : Supplies
    s = supplies_of v c

    chosen : Part → List Pair
    chosen = for_parts cuts.chosen

    all : IsTaken v c chosen w
    all = taken_of laws v c used blocks o w ready cuts

    taken : TakesLeast v c s chosen
    taken = all.taken

    accepted : IsAccepted v c s
    accepted = all.accepted

    pairs : AreChosen v c s chosen
    pairs = all.pairs

    after : Volume
    after = cut chosen (edited v c s)

    new : List ℕ
    new = volume_bytes after

    same : outlined after ≡ w
    same = all.same

    follows : Follows v c after
    follows = laws.follow v c s chosen accepted pairs

    bytes : volume_bytes w ≡ new
    bytes = ap volume_bytes (sym same) ∙ same_bytes after

    said : SaysVolume after new
    said =
        let on : SaysVolume (outlined after) (volume_bytes (outlined after)) = subst (λ (x : Volume). SaysVolume x (volume_bytes x)) (sym same) says in
        let here : SaysVolume (outlined after) new = subst (SaysVolume (outlined after)) (same_bytes after) on in
        record { len = here.len; header = here.header; limits = here.limits }

    written : AreWritten e new after.attributes (is_new_to v) writes.base (links (outlined after).directories) p.changes
    written =
        laws.tell v used ready.marks e new after.attributes writes.base (links (outlined after).directories) p.changes
        (subst (λ (x : Volume). AreWritten e new x.attributes (is_unmarked used) writes.base (links x.directories) p.changes)
        (sym same)
        (subst (λ (bs : List ℕ). AreWritten e bs w.attributes (is_unmarked used) writes.base (links w.directories) p.changes) bytes
        writes.written))

    changed : ChangesLinks e (is_new_to v) (forced_by c) (links (outlined after).directories) p.changes
    changed =
        laws.tell_changed v used ready.marks e (forced_by c) (links (outlined after).directories) p.changes
        (subst (λ (x : Volume). ChangesLinks e (is_unmarked used) (forced_by c) (links x.directories) p.changes) (sym same) writes.changed)

    laid : NewIsThere (reading_of (applied (kept p) e)) v c s × HasLaid v c s (applied (kept p) e)
    laid =
        laws.laid e v c s chosen new (is_new_to v) writes.base (kept p) long.is writes.patch writes.stands writes.keeps accepted.free
        writes.contents writes.lays written

    command : WritesCommand e v c s chosen new (is_new_to v) writes.base (kept p)
    command = record {
      disk = long.is.disk;
      patch = writes.patch;
      stands = writes.stands;
      keeps = writes.keeps;
      contents = writes.contents;
      written = written;
      there = laid.0;
    }

    volume : WritesOutline e (grown c v) after (volume_bytes v) new (is_new_to v) writes.base (kept p)
    volume = laws.written e v c s chosen (is_new_to v) writes.base (kept p) long.parts accepted pairs command

    holds : Holds (reading_of (applied p d)) (clean after)
    holds = subst (λ (x : Disk). Holds (reading_of x) (clean after)) long.same
        (laws.hold e v c s chosen (volume_bytes v) new (is_new_to v) writes.base (kept p) long.parts said accepted pairs volume)

    frugal : IsFrugal v c s (changed_blocks p.changes)
    frugal = laws.frugal e v c s chosen (volume_bytes v) new writes.base (kept p) accepted pairs taken writes.contents volume

    plans : (asked : Asked) → Spells asked c → Plans d asked p
    plans asked spells = record {
      volume = v;
      holds = held;
      command = c;
      spells = spells;
      next = clean after;
      carried = carries v c used blocks o w chosen ready all;
      patch = long.growth;
      stands = long.stands;
      count = long.count;
      after = holds;
      laid = subst (HasLaid v c s) long.same laid.1;
      filled = subst (FillsNewPairs v after) long.same (laws.filled e (grown c v) after (volume_bytes v) new writes.base (kept p) volume);
      changed = subst (ChangesPairs (forced_by c) v after e) long.same
          (laws.changed e (grown c v) after (volume_bytes v) new writes.base (kept p) (forced_by c) volume changed);
      frugal = frugal;
      free = laws.freed v c s chosen accepted pairs;
    }

    leaves : clean w ≡ outlined (clean after)
    leaves = ap clean (sym same) ∙ sym (outlined_clean after)

    outline : IsOutlineOf (applied p d) (clean w)
    outline = record { volume = clean after; holds = holds; sound = (laws.clean v after c follows).sound; outline = leaves }
