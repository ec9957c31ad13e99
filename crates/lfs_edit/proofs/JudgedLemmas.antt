-- A command that no check refuses, those on room aside: it can be edited, and then is refused for want of room, or ready to be cut.
use Rattle.std.proofs.Common.{◌≡◌, ◌+◌, ◌<◌, ◌^◌, ◌&&◌, ℕ, Bool, false, List, [], ◌∷◌, length, map, take, refl, ap, sym, ◌∙◌, subst}
use Rattle.std.proofs.Common.{arith, inl, inr, Option, Some, None}
use Rattle.std.specs.Prelude.{◌⊎◌, All, Contains, is_none, nat_lt, sum_by}
use Rattle.std.specs.Option.{option_or}
use Rattle.std.proofs.lemmas.Bool.Decides.{nat_tests}
use Rattle.std.proofs.lemmas.List.{take_all}
use Rattle.std.proofs.lemmas.List.Elements.{All-map}
use Rattle.lfs_block.specs.Disk.{Disk, IsDisk}
use Rattle.lfs_block.specs.Geometry.{IsGeometry}
use Rattle.lfs_meta.specs.Body.{Pair}
use Rattle.lfs_fs.specs.Directory.{Part, thread}
use Rattle.lfs_fs.specs.Free.{free_blocks}
use Rattle.lfs_fs.specs.Holds.{Holds}
use Rattle.lfs_fs.specs.Mounted.{IsOutlineOf}
use Rattle.lfs_fs.specs.NameOrder.{NamesAreOrdered}
use Rattle.lfs_fs.specs.Outlined.{outlined, outlined_part}
use Rattle.lfs_fs.specs.Pair.{root, same_pair}
use Rattle.lfs_fs.specs.Path.{Path}
use Rattle.lfs_fs.specs.Reading.{reading_of}
use Rattle.lfs_fs.specs.Sound.{IsSound}
use Rattle.lfs_fs.specs.SoundOutlines.{OutlinesAreSound}
use Rattle.lfs_fs.specs.Stored.{HeldAreHeldByLinks}
use Rattle.lfs_fs.specs.Superblock.{IsLimits}
use Rattle.lfs_fs.specs.Tree.{tree}
use Rattle.lfs_fs.specs.Table.{IsTableOf}
use Rattle.lfs_fs.specs.Unused.{unused}
use Rattle.lfs_fs.specs.Used.{Marks}
use Rattle.lfs_fs.specs.Uses.{uses}
use Rattle.lfs_fs.specs.Volume.{Volume}
use Rattle.lfs_fs.proofs.ContainsLemmas.{contains_first}
use Rattle.lfs_fs.proofs.UnusedLemmas.{unused_free}
use Rattle.lfs_fs.proofs.OutlinedLemmas.{outlined_free, outlined_thread, outlined_uses}
use Rattle.lfs_command.specs.AskedFor.{OnNames, contents_len, named_command}
use Rattle.lfs_command.specs.declared.command.Command.TheVariants as case
use Rattle.lfs_command.specs.declared.refusal.Refusal.{Refusal}
use Rattle.lfs_command.specs.declared.refusal.Refusal.TheVariants.{EntryTooLarge, FileTooLarge, IsADirectory, IsRoot, Memory, NameTooLong}
use Rattle.lfs_command.specs.declared.refusal.Refusal.TheVariants.{NoSpace}
use Rattle.lfs_draft.specs.LeastSupplies.{least_pair, least_supplies, made_blocks}
use Rattle.lfs_cut.specs.RoomChecks.{room_checks_on}
use Rattle.lfs_edit.specs.Carried.{IsHoldable, IsJudged, IsLed, IsOutlined, IsReady, IsRefusedBy, IsUnweighed, supplies_of}
use Rattle.lfs_edit.specs.CarryingLaws.{CarryingLaws}
use Rattle.lfs_command.specs.Clean.{IsClean}
use Rattle.lfs_command.specs.Command.{Asked, Command, Grow, Mkdir, Mv, Put, Rm, RmAttr, SetAttr, Spells}
use Rattle.lfs_draft.specs.Editable.{IsEditable}
use Rattle.lfs_command.specs.Edited.{edited}
use Rattle.lfs_law.specs.EditedOutline.{edited_outline}
use Rattle.lfs_command.specs.Growth.{grown}
use Rattle.lfs_command.specs.Leading.{leading_pair}
use Rattle.lfs_command.specs.Need.{data_blocks, dirty_parts, need, part_blocks}
use Rattle.lfs_command.specs.Ordered.{leader}
use Rattle.lfs_law.specs.CountsGrow.{CountsGrow}
use Rattle.lfs_law.specs.NeedsSmall.{HeldHaveFewEntries, NeedsAreSmall}
use Rattle.lfs_law.specs.OutlineCarried.{IsCarried, has_too_large}
use Rattle.lfs_law.specs.JudgedAlike.{OutlinesAreJudgedAlike}
use Rattle.lfs_law.specs.Written.{HeldAreClean}
use Rattle.lfs_command.specs.Planned.{RefusesPlan}
use Rattle.lfs_command.specs.Supplies.{nothing}
use Rattle.lfs_command.specs.Verdict.{checks, first_refusal, is_directory, is_root, last_length, refuse_if, room_checks, verdict}
use Rattle.lfs_command.specs.Verdict.{walk_refusal}
use Rattle.lfs_draft.proofs.EditableLemmas.{begin_once, each_named_once}
use Rattle.lfs_edit.proofs.EditedSizes.{edited_size}
use Rattle.lfs_edit.proofs.OrderLemmas.{leading_outlined}
use Rattle.lfs_law.proofs.FreeBlocks.{taken_unused}
use Rattle.lfs_law.proofs.GrowFollows.{grown_sound}
use Rattle.lfs_law.proofs.Parents.{first_passes, test_passes}
use Rattle.lfs_law.proofs.PartsFit.{not_root}
use Rattle.lfs_law.proofs.VerdictKinds.{refuses}
use Rattle.lfs_law.proofs.Verdicts.{refused_first, passed_first}

-- ---- checks that refuse

-- a check that refuses on the outline does so on the volume
pub judged_on : OutlinesAreJudgedAlike → (v : Volume) (c : Command) (o : Volume) → o ≡ outlined v → (r : Refusal)
    → first_refusal (checks o c) ≡ Some r → verdict v c ≡ Some r
judged_on alike v c o is r refused =
    refused_first (checks v c) (room_checks v c) r
    (ap first_refusal (sym (alike v c).checked) ∙ ap (λ (x : Volume). first_refusal (checks x c)) (sym is) ∙ refused)

pub refused_on : OutlinesAreJudgedAlike → (d : Disk) (o : Volume) → IsOutlineOf d o → (asked : Asked) (c : Command) → Spells asked c
    → (r : Refusal) → first_refusal (checks o c) ≡ Some r → RefusesPlan d asked r
refused_on alike d o is asked c spells r refused =
    refuses d asked r (record {
      volume = is.volume;
      holds = is.holds;
      sound = is.sound;
      command = c;
      spells = spells;
      refused = judged_on alike is.volume c o is.outline r refused;
    })

-- want of memory may be answered to any command
pub may_be_refused : (d : Disk) (c : Command) (r : Refusal) → (r ≡ Memory) ⊎ IsRefusedBy d c r → IsRefusedBy d c r
may_be_refused d c r (inl memory) = subst (IsRefusedBy d c) (sym memory) (λ asked spells. tt)
may_be_refused d c r (inr refused) = refused

-- ---- before the edit

-- an image holds limits of the format
pub limits_held : (d : Disk) (v : Volume) → Holds (reading_of d) v → IsLimits v.limits
limits_held d v holds = subst (λ (x : Volume). IsLimits x.limits) (sym holds.is) holds.limits

-- a sound volume that an image holds is one as images hold it
pub holdable : HeldAreClean → HeldAreHeldByLinks → HeldHaveFewEntries → (d : Disk) → IsDisk d → (v : Volume) → IsSound v → Holds (reading_of d) v
    → IsHoldable v
holdable marks by_links few d disk v sound holds =
    let held = by_links (reading_of d) v holds in
    record {
      sound = sound;
      clean = marks (reading_of d) v held;
      limits = limits_held d v holds;
      fits = subst (λ (k : ℕ). IsGeometry k v.count) (sym held.size) (subst (IsGeometry d.size) (sym held.count) disk.geometry);
      few = few d v disk holds;
    }

-- the outline of such a volume is sound
pub outline_sound : OutlinesAreSound → (v o : Volume) → IsOutlined v o → IsSound o
outline_sound sound v o is = subst IsSound (sym is.outline) (sound v is.holdable.sound)

-- no part of it is marked
pub clean_outline : (v o : Volume) → IsOutlined v o → IsClean o
clean_outline v o is = subst IsClean (sym is.outline)
    (subst (All (λ p. p.dirty ≡ false)) (sym (outlined_thread v.directories))
    (All-map (λ (p : Part). p.dirty ≡ false) outlined_part (thread v.directories) is.holdable.clean))

pub editable : OutlinesAreSound → NamesAreOrdered → (v : Volume) (c : Command) (o : Volume) → IsJudged v c o → IsEditable o c
editable sound ordered v c o judged = record {
  sound = outline_sound sound v o judged.is;
  limits = subst (λ (x : Volume). IsLimits x.limits) (sym judged.is.outline) judged.is.holdable.limits;
  names = judged.names;
  unrefused = judged.unrefused;
  begins = begin_once o (outline_sound sound v o judged.is);
  named = each_named_once o ordered (outline_sound sound v o judged.is);
}

-- the outline with as many blocks as the command leaves
pub long_sound : CountsGrow → OutlinesAreSound → (v : Volume) (c : Command) (o : Volume) → IsJudged v c o → IsSound (grown c o)
long_sound grow sound v c o judged =
    let fits : IsGeometry o.size o.count = subst (λ (x : Volume). IsGeometry x.size x.count) (sym judged.is.outline)
    judged.is.holdable.fits in
    grown_sound o c (outline_sound sound v o judged.is) (grow o c fits judged.unrefused).1

-- the contents that are put have less than 2^32 bytes, since no file is longer than its limit
put_short : (o : Volume) (p : Path) (bytes : List ℕ) (most : ℕ) → IsLimits o.limits → first_refusal (checks o (Put p bytes most)) ≡ None
    → length bytes < 2 ^ 32
put_short o p bytes most limits passes =
    let below = first_passes (refuse_if (is_root p) IsRoot) _ passes in
    let walk = first_passes (walk_refusal (tree o) [] p) _ below.1 in
    let file = first_passes (refuse_if (is_directory (tree o p)) IsADirectory) _ walk.1 in
    let short = first_passes (refuse_if (is_none (tree o p) && nat_lt o.limits.name (last_length p)) NameTooLong) _ file.1 in
    let small = first_passes (refuse_if (nat_lt o.limits.file (length bytes)) FileTooLarge) _ short.1 in
    let fits : nat_lt o.limits.file (length bytes) ≡ false = test_passes (nat_lt o.limits.file (length bytes)) FileTooLarge small.0 in
    let limit = limits.file.1 in
    grind (arith, nat_tests)

pub accepted_short : (o : Volume) (c : OnNames) → IsLimits o.limits → first_refusal (checks o (named_command c)) ≡ None
    → contents_len c < 2 ^ 32
accepted_short o (case.Mkdir path) limits passes = omega arith
accepted_short o (case.Put path bytes most) limits passes = put_short o (map (λ n. n.now) path.items) bytes.now most limits passes
accepted_short o (case.Rm path) limits passes = omega arith
accepted_short o (case.Mv from to) limits passes = omega arith
accepted_short o (case.SetAttr path kind value) limits passes = omega arith
accepted_short o (case.RmAttr path kind) limits passes = omega arith
accepted_short o (case.Grow count) limits passes = omega arith

pub contents_short : (o : Volume) (c : OnNames) → IsEditable o (named_command c) → contents_len c < 2 ^ 32
contents_short o c editable = accepted_short o c editable.limits editable.unrefused

-- ---- the edit

data_same : (v w : Volume) (c : Command) → v.size ≡ w.size → data_blocks v c ≡ data_blocks w c
data_same v w (Mkdir p) same = refl
data_same v w (Put p bytes most) same = ap (λ (n : ℕ). data_blocks (record
    { size = n; count = v.count; limits = v.limits; attributes = v.attributes; directories = v.directories }) (Put p bytes most)) same
data_same v w (Rm p) same = refl
data_same v w (Mv p q) same = refl
data_same v w (SetAttr p k value) same = refl
data_same v w (RmAttr p k) same = refl
data_same v w (Grow n) same = refl

least_same : (v o : Volume) (c : Command) (free : List ℕ) → o.size ≡ v.size → least_supplies o c free ≡ least_supplies v c free
least_same v o c free same = ap (λ (n : ℕ). record { blocks = take n free; pair = least_pair free }) (data_same o v c same)

pub unweighed : CarryingLaws → (v : Volume) (c : Command) (o new : Volume) (used : List Bool) → IsJudged v c o
    → Marks used (λ b. uses b o) → unused used ≡ free_blocks (grown c o) → new ≡ edited_outline o c (least_supplies o c (unused used))
    → IsUnweighed v c used new
unweighed laws v c o new used judged marks free edits = record {
  holdable = judged.is.holdable;
  names = judged.names;
  unrefused = ap first_refusal (sym (laws.judged v c).checked ∙ ap (λ (x : Volume). checks x c) (sym is)) ∙ judged.unrefused;
  marks = λ b. marks b ∙ ap (uses b) is ∙ outlined_uses b v;
  free = unused_is;
  outline = edits ∙ ap (edited_outline o c) (ap (least_supplies o c) unused_is
      ∙ least_same v o c (free_blocks (grown c v)) (ap (λ (x : Volume). x.size) is))
      ∙ ap (λ (x : Volume). edited_outline x c (supplies_of v c)) is;
}
  where
    is : o ≡ outlined v
    is = judged.is.outline

    unused_is : unused used ≡ free_blocks (grown c v)
    unused_is = free ∙ ap (λ (x : Volume). free_blocks (grown c x)) is ∙ outlined_free (grown c v)

-- the part that had the entry before leads, else the one that has it then
pub unweighed_leads : (laws : CarryingLaws) (v : Volume) (c : Command) (o new : Volume) (used : List Bool) → o ≡ outlined v
    → IsUnweighed v c used new → (before leading : Option Pair)
    → before ≡ leading_pair o c → leading ≡ option_or before (leading_pair new c) → leading ≡ leader v c (supplies_of v c)
unweighed_leads laws v c o new used is u before leading first leads =
    leads ∙ ap (λ (k : Option Pair). option_or k (leading_pair new c))
    (first ∙ ap (λ (x : Volume). leading_pair x c) is ∙ leading_outlined v c)
    ∙ ap (option_or (leading_pair v c))
    (ap (λ (x : Volume). leading_pair x c) (u.outline ∙ sym (laws.outlines v c (supplies_of v c)))
    ∙ leading_outlined (edited v c (supplies_of v c)) c)

-- ---- behind the edit

-- the least two free blocks are no pair of the root
least_by : (v : Volume) → IsSound v → (free : List ℕ) → ((b : ℕ) → Contains free b → uses b v ≡ 0)
    → same_pair (least_pair free) root ≡ false
least_by v sound [] none = refl
least_by v sound (a ∷ []) none = refl
least_by v sound (a ∷ b ∷ more) none = not_root v sound (a, b) (none a (contains_first a (b ∷ more)))

least_not_root : (v : Volume) (c : Command) → IsSound v → same_pair (least_pair (free_blocks (grown c v))) root ≡ false
least_not_root v c sound =
    let free : List ℕ = free_blocks (grown c v) in
    least_by v sound free
    (λ b there. taken_unused (grown c v) (length free) b (subst (λ (xs : List ℕ). Contains xs b)
    (sym (take_all (length free) free (omega arith))) there))

-- what is known of such an outline
pub record IsWeighed (v : Volume) (c : Command) (used : List Bool) (o : Volume) : Type 0 where
  pub frame : o.size ≡ v.size
  pub needed : made_blocks v c + sum_by (part_blocks o) (dirty_parts o) ≡ need v c
  pub small : need v c < 2 ^ 32
  pub judged : first_refusal (room_checks_on o (made_blocks v c) (unused used)) ≡ verdict v c

pub weighed : CarryingLaws → NeedsAreSmall → (v : Volume) (c : Command) (used : List Bool) (o : Volume) → IsUnweighed v c used o
    → IsWeighed v c used o
weighed laws small v c used o u = record {
  frame = ap (λ (x : Volume). x.size) is ∙ edited_size v c (supplies_of v c);
  needed = sym carried.needed;
  small = small v c u.holdable.sound u.holdable.clean u.holdable.limits u.holdable.few u.unrefused;
  judged = judged;
}
  where
    is : o ≡ outlined (edited v c (supplies_of v c))
    is = u.outline ∙ sym (laws.outlines v c (supplies_of v c))

    carried : IsCarried v c (supplies_of v c) (λ p. []) o
    carried = subst (IsCarried v c (supplies_of v c) (λ p. [])) (sym u.outline) (laws.carried v c (supplies_of v c) (λ p. []))

    large : has_too_large (edited v c nothing) ≡ has_too_large o
    large = carried.large (least_not_root v c u.holdable.sound)

    rows : room_checks v c ≡ room_checks_on o (made_blocks v c) (unused used)
    rows =
        ap (λ (t : Bool). refuse_if t EntryTooLarge ∷ refuse_if (nat_lt (length (free_blocks (grown c v))) (need v c))
        (NoSpace (need v c) (length (free_blocks (grown c v)))) ∷ []) large
        ∙ ap (λ (n : ℕ). refuse_if (has_too_large o) EntryTooLarge ∷ refuse_if (nat_lt (length (free_blocks (grown c v))) n)
        (NoSpace n (length (free_blocks (grown c v)))) ∷ []) carried.needed
        ∙ ap (λ (free : List ℕ). room_checks_on o (made_blocks v c) free) (sym u.free)

    judged : first_refusal (room_checks_on o (made_blocks v c) (unused used)) ≡ verdict v c
    judged = ap first_refusal (sym rows) ∙ sym (passed_first (checks v c) (room_checks v c) u.unrefused)

-- a verdict on the volume that an image holds refuses the command, however it is spelled
pub refused_by : (d : Disk) (c : Command) (v : Volume) → IsSound v → Holds (reading_of d) v → (r : Refusal) → verdict v c ≡ Some r
    → IsRefusedBy d c r
refused_by d c v sound holds r refused asked spells =
    refuses d asked r (record { volume = v; holds = holds; sound = sound; command = c; spells = spells; refused = refused })

ready : (v : Volume) (c : Command) (used : List Bool) (o : Volume) → IsUnweighed v c used o → (blocks : List ℕ) → IsWeighed v c used o
    → first_refusal (room_checks_on o (made_blocks v c) (unused used)) ≡ None
    → blocks ≡ take (made_blocks v c + sum_by (part_blocks o) (dirty_parts o)) (unused used) → IsReady v c used blocks o
ready v c used o u blocks known passes least = record {
  holdable = u.holdable;
  names = u.names;
  unrefused = sym known.judged ∙ passes;
  marks = u.marks;
  outline = u.outline;
  least = least ∙ ap (λ (n : ℕ). take n (unused used)) known.needed ∙ ap (take (need v c)) u.free;
}

pub led : (v : Volume) (c : Command) (used : List Bool) (o : Volume) → IsUnweighed v c used o → (blocks : List ℕ) (made : ℕ)
    (leading : Option Pair) → IsWeighed v c used o → made ≡ made_blocks v c
    → first_refusal (room_checks_on o made (unused used)) ≡ None
    → blocks ≡ take (made + sum_by (part_blocks o) (dirty_parts o)) (unused used)
    → leading ≡ leader v c (supplies_of v c) → IsLed v c used blocks made o leading
led v c used o u blocks made leading known is passes least leads = record {
  ready = ready v c used o u blocks known (ap (λ (n : ℕ). first_refusal (room_checks_on o n (unused used))) (sym is) ∙ passes)
      (least ∙ ap (λ (n : ℕ). take (n + sum_by (part_blocks o) (dirty_parts o)) (unused used)) is);
  made = is;
  leads = leads;
}

-- what is known of an outline that was edited with the least free blocks
pub record IsEdited (v : Volume) (c : Command) (used : List Bool) (o : Volume) : Type 0 where
  pub is : IsUnweighed v c used o
  pub known : IsWeighed v c used o

pub edited_known : CarryingLaws → NeedsAreSmall → (v : Volume) (c : Command) (before o : Volume) (used : List Bool) → IsJudged v c before
    → IsTableOf (grown c before) used → o ≡ edited_outline before c (least_supplies before c (unused used)) → IsEdited v c used o
edited_known laws small v c before o used judged table edits =
    let u = unweighed laws v c before o used judged table.marks (unused_free (grown c before) used table.len table.marks) edits in
    record { is = u; known = weighed laws small v c used o u }
