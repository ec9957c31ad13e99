-- What is cut is written over the lengthened image, and the patch carries the command out.
use Rattle.std.proofs.Common.{◌≡◌, ◌<◌, ◌≤◌, ℕ, Bool, List, take, ap, sym, ◌∙◌, subst}
use Rattle.std.specs.Prelude.{All}
use Rattle.lfs_block.specs.Disk.{Disk, erased_block, resized}
use Rattle.lfs_block.specs.Geometry.{IsGeometry}
use Rattle.lfs_block.specs.Patch.{ChangeSet, IsGrowth}
use Rattle.lfs_fs.specs.Thread.{links}
use Rattle.lfs_edit.specs.Carried.{IsFinished, supplies_of}
use Rattle.lfs_command.specs.Clean.{clean}
use Rattle.lfs_command.specs.Growth.{count_after}
use Rattle.lfs_law.specs.SuperblockBytes.{volume_bytes}
use Rattle.lfs_law.specs.WrittenLinks.{AreWritten, ChangesLinks}
use Rattle.lfs_command.specs.AskedFor.{named_command}
use Rattle.lfs_command.specs.PairChanged.{forced_by}
use Rattle.lfs_law.specs.PairWritten.{CanBeAdded}
use Rattle.lfs_law.specs.PlansHold.{is_unmarked}
use Rattle.lfs_law.proofs.KeptPatches.{grown_patch}
use Rattle.lfs_write.specs.Laid.{AreLaidFor}
use Rattle.lfs_edit.proofs.CarryingLemmas.{finish}
use Rattle.lfs_edit.proofs.WritingLemmas.{at_hand, can_be_added, contents_are, contents_below, contents_many, contents_rise, changed_by, is_written, same_grown}
use Rattle.lfs_edit.proofs.patching.written.Goals as goal

pub of-long-requires : goal.of-long-requires
of-long-requires c =
    let d = c.args.image.now.disk in
    let command = named_command c.args.command.now in
    let used = c.args.used.now in
    let blocks = c.args.blocks.now in
    let w = c.args.outline.now in
    let v = c.requires.cut.volume in
    let cut' = c.requires.cut.cut in
    let known = at_hand c.carrying_laws.ensures c.writing_laws.ensures d c.size-size.ensures.disk v c.requires.cut.holds command used blocks w cut' in
    let counted : c.count_after-after.result ≡ count_after command d.count = c.count_after-after.ensures
    ∙ ap (count_after command) c.count-before.ensures in
    record {
      disk = c.size-size.ensures.disk;
      geometry = subst (IsGeometry d.size) (sym counted) known.fits;
      rise = subst (λ (n : ℕ). d.count ≤ n) (sym counted) known.more;
      erased = c.deref.ensures.value ∙ c.in_ok-erased.ensures ∙ ap erased_block c.size-size.ensures.value;
    }

pub slice_bounds-laid_for-end : goal.slice_bounds-laid_for-end
slice_bounds-laid_for-end c =
    let d = c.args.image.now.disk in
    let command = named_command c.args.command.now in
    let used = c.args.used.now in
    let blocks = c.args.blocks.now in
    let w = c.args.outline.now in
    let v = c.requires.cut.volume in
    let cut' = c.requires.cut.cut in
    let known = at_hand c.carrying_laws.ensures c.writing_laws.ensures d c.size-size.ensures.disk v c.requires.cut.holds command used blocks w cut' in
    let is = c.data_blocks-data.ensures v (known.held.size ∙ sym c.size-size.ensures.value) in
    sym (contents_many v command used blocks w cut' c.data_blocks-data.result is)

pub laid_for-requires-clause-rising : goal.laid_for-requires-clause-rising
laid_for-requires-clause-rising c =
    let d = c.args.image.now.disk in
    let command = named_command c.args.command.now in
    let used = c.args.used.now in
    let blocks = c.args.blocks.now in
    let w = c.args.outline.now in
    let v = c.requires.cut.volume in
    let cut' = c.requires.cut.cut in
    let known = at_hand c.carrying_laws.ensures c.writing_laws.ensures d c.size-size.ensures.disk v c.requires.cut.holds command used blocks w cut' in
    let is = c.data_blocks-data.ensures v (known.held.size ∙ sym c.size-size.ensures.value) in
    contents_rise v command used blocks w cut' c.data_blocks-data.result is

pub laid_for-requires-clause-below : goal.laid_for-requires-clause-below
laid_for-requires-clause-below c =
    let d = c.args.image.now.disk in
    let command = named_command c.args.command.now in
    let used = c.args.used.now in
    let blocks = c.args.blocks.now in
    let w = c.args.outline.now in
    let v = c.requires.cut.volume in
    let cut' = c.requires.cut.cut in
    let known = at_hand c.carrying_laws.ensures c.writing_laws.ensures d c.size-size.ensures.disk v c.requires.cut.holds command used blocks w cut' in
    let is = c.data_blocks-data.ensures v (known.held.size ∙ sym c.size-size.ensures.value) in
    let counted : c.count_after-after.result ≡ count_after command d.count = c.count_after-after.ensures
    ∙ ap (count_after command) c.count-before.ensures in
    let long : c.of-long.result ≡ resized (count_after command d.count) d = c.of-long.ensures
    ∙ ap (λ (n : ℕ). resized n d) counted in
    subst (λ (x : Disk). All (λ b. b < x.count) (take c.data_blocks-data.result blocks)) (sym long)
    (subst (λ (n : ℕ). All (λ b. b < count_after command n) (take c.data_blocks-data.result blocks)) known.held.count
    (contents_below v command used blocks w cut' c.data_blocks-data.result is))

pub laid_for-requires-clause-many : goal.laid_for-requires-clause-many
laid_for-requires-clause-many c u size =
    let d = c.args.image.now.disk in
    let command = named_command c.args.command.now in
    let used = c.args.used.now in
    let blocks = c.args.blocks.now in
    let w = c.args.outline.now in
    let v = c.requires.cut.volume in
    let cut' = c.requires.cut.cut in
    let known = at_hand c.carrying_laws.ensures c.writing_laws.ensures d c.size-size.ensures.disk v c.requires.cut.holds command used blocks w cut' in
    let is = c.data_blocks-data.ensures v (known.held.size ∙ sym c.size-size.ensures.value) in
    let counted : c.count_after-after.result ≡ count_after command d.count = c.count_after-after.ensures
    ∙ ap (count_after command) c.count-before.ensures in
    let long : c.of-long.result ≡ resized (count_after command d.count) d = c.of-long.ensures
    ∙ ap (λ (n : ℕ). resized n d) counted in
    contents_many v command used blocks w cut' c.data_blocks-data.result is
    ∙ c.data_blocks-data.ensures u (size ∙ ap (λ (x : Disk). x.size) long ∙ sym c.size-size.ensures.value)

pub write_links-requires-clause-rise : goal.write_links-requires-clause-rise
write_links-requires-clause-rise c =
    let d = c.args.image.now.disk in
    let command = named_command c.args.command.now in
    let used = c.args.used.now in
    let blocks = c.args.blocks.now in
    let w = c.args.outline.now in
    let v = c.requires.cut.volume in
    let cut' = c.requires.cut.cut in
    let known = at_hand c.carrying_laws.ensures c.writing_laws.ensures d c.size-size.ensures.disk v c.requires.cut.holds command used blocks w cut' in
    known.root

pub write_links-requires-clause-can : goal.write_links-requires-clause-can
write_links-requires-clause-can c =
    let d = c.args.image.now.disk in
    let command = named_command c.args.command.now in
    let used = c.args.used.now in
    let blocks = c.args.blocks.now in
    let w = c.args.outline.now in
    let v = c.requires.cut.volume in
    let cut' = c.requires.cut.cut in
    let known = at_hand c.carrying_laws.ensures c.writing_laws.ensures d c.size-size.ensures.disk v c.requires.cut.holds command used blocks w cut' in
    let is = c.data_blocks-data.ensures v (known.held.size ∙ sym c.size-size.ensures.value) in
    let counted : c.count_after-after.result ≡ count_after command d.count = c.count_after-after.ensures
    ∙ ap (count_after command) c.count-before.ensures in
    let long : c.of-long.result ≡ resized (count_after command d.count) d = c.of-long.ensures
    ∙ ap (λ (n : ℕ). resized n d) counted in
    let contents = ap (λ (k : ℕ). take k blocks) is ∙ contents_are v command used blocks w cut' in
    let laid = c.in_ok-base.ensures v (supplies_of v command) (known.held.size ∙ sym (ap (λ (x : Disk). x.size) long)) (sym contents) in
    subst (λ (flags : List Bool). CanBeAdded c.of-long.result (volume_bytes w) w.attributes (is_unmarked flags) c.in_ok-base.base.items
    (links w.directories)) (sym c.flags.ensures)
    (can_be_added c.cut_links_can_be_written.ensures.added d c.of-long.result v command used blocks w cut' known long
    c.in_ok-base.base.items laid)

pub of-requires : goal.of-requires
of-requires c =
    let d = c.args.image.now.disk in
    let command = named_command c.args.command.now in
    let used = c.args.used.now in
    let blocks = c.args.blocks.now in
    let w = c.args.outline.now in
    let v = c.requires.cut.volume in
    let cut' = c.requires.cut.cut in
    let known = at_hand c.carrying_laws.ensures c.writing_laws.ensures d c.size-size.ensures.disk v c.requires.cut.holds command used blocks w cut' in
    let is = c.data_blocks-data.ensures v (known.held.size ∙ sym c.size-size.ensures.value) in
    let counted : c.count_after-after.result ≡ count_after command d.count = c.count_after-after.ensures
    ∙ ap (count_after command) c.count-before.ensures in
    let long : c.of-long.result ≡ resized (count_after command d.count) d = c.of-long.ensures
    ∙ ap (λ (n : ℕ). resized n d) counted in
    let contents = ap (λ (k : ℕ). take k blocks) is ∙ contents_are v command used blocks w cut' in
    let laid = c.in_ok-base.ensures v (supplies_of v command) (known.held.size ∙ sym (ap (λ (x : Disk). x.size) long)) (sym contents) in
    let e : Disk = resized (count_after command d.count) d in
    let base = c.in_ok-base.base.items in
    let cs = c.in_ok-changes.changes.items in
    let written = subst (λ (x : Disk). AreWritten x (volume_bytes w) w.attributes (is_unmarked used) base (links w.directories) cs) long
    (subst (λ (flags : List Bool). AreWritten c.of-long.result (volume_bytes w) w.attributes (is_unmarked flags) base
    (links w.directories) cs) c.flags.ensures c.in_ok-changes.ensures.written) in
    let changed = subst (λ (x : Disk). ChangesLinks x (is_unmarked used) (forced_by command) (links w.directories) cs) long
    (changed_by c.of-long.result (links w.directories) cs c.flags.ensures c.forced_by-forced.ensures c.in_ok-changes.ensures.changed) in
    let all = is_written c.carrying_laws.ensures c.writing_laws.ensures c.commands_set_a_part.ensures d c.size-size.ensures.disk v command
    used blocks w cut' known base cs (subst (λ (x : Disk). AreLaidFor x v command (supplies_of v command) base) long laid) written changed in
    subst IsGrowth (sym (same_grown cs c.size-size.ensures.value c.count-before.ensures counted)) all.long.growth

pub returns : goal.returns
returns c =
    let d = c.args.image.now.disk in
    let command = named_command c.args.command.now in
    let used = c.args.used.now in
    let blocks = c.args.blocks.now in
    let w = c.args.outline.now in
    let v = c.requires.cut.volume in
    let cut' = c.requires.cut.cut in
    let known = at_hand c.carrying_laws.ensures c.writing_laws.ensures d c.size-size.ensures.disk v c.requires.cut.holds command used blocks w cut' in
    let is = c.data_blocks-data.ensures v (known.held.size ∙ sym c.size-size.ensures.value) in
    let counted : c.count_after-after.result ≡ count_after command d.count = c.count_after-after.ensures
    ∙ ap (count_after command) c.count-before.ensures in
    let long : c.of-long.result ≡ resized (count_after command d.count) d = c.of-long.ensures
    ∙ ap (λ (n : ℕ). resized n d) counted in
    let contents = ap (λ (k : ℕ). take k blocks) is ∙ contents_are v command used blocks w cut' in
    let laid = c.in_ok-base.ensures v (supplies_of v command) (known.held.size ∙ sym (ap (λ (x : Disk). x.size) long)) (sym contents) in
    let e : Disk = resized (count_after command d.count) d in
    let base = c.in_ok-base.base.items in
    let cs = c.in_ok-changes.changes.items in
    let written = subst (λ (x : Disk). AreWritten x (volume_bytes w) w.attributes (is_unmarked used) base (links w.directories) cs) long
    (subst (λ (flags : List Bool). AreWritten c.of-long.result (volume_bytes w) w.attributes (is_unmarked flags) base
    (links w.directories) cs) c.flags.ensures c.in_ok-changes.ensures.written) in
    let changed = subst (λ (x : Disk). ChangesLinks x (is_unmarked used) (forced_by command) (links w.directories) cs) long
    (changed_by c.of-long.result (links w.directories) cs c.flags.ensures c.forced_by-forced.ensures c.in_ok-changes.ensures.changed) in
    let all = is_written c.carrying_laws.ensures c.writing_laws.ensures c.commands_set_a_part.ensures d c.size-size.ensures.disk v command
    used blocks w cut' known base cs (subst (λ (x : Disk). AreLaidFor x v command (supplies_of v command) base) long laid) written changed in
    let p : ChangeSet = grown_patch d.size d.count (count_after command d.count) cs in
    let same : c.of.result ≡ p = c.of.ensures ∙ same_grown cs c.size-size.ensures.value c.count-before.ensures counted in
    subst (λ (x : ChangeSet). IsFinished d command x (clean w)) (sym same)
    (finish c.carrying_laws.ensures d command used blocks v cut'.before w p c.requires.cut.holds cut'.ready cut'.cuts all.long known.says all.writes)
