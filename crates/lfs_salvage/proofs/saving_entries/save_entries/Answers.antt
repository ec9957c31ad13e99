-- One entry after another.
use Rattle.std.proofs.Common.{◌≡◌, ◌+◌, ◌∙◌, [], List, ℕ, Option, drop, refl, sym, subst}
use Rattle.std.proofs.lemmas.List.{at_drop_all}
use Rattle.std.proofs.lemmas.Result.{err_from_is_err_and}
use Rattle.lfs_block.specs.Disk.{Disk}
use Rattle.lfs_host.specs.NewFolder.{Made}
use Rattle.lfs_meta.specs.Entry.{StoredEntry}
use Rattle.lfs_salvage.specs.AreaMade.{entry_made, entry_unsaved, uses_by_entry, call_parent}
use Rattle.lfs_salvage.specs.declared.block_use.BlockUse.{BlockUse}
use Rattle.lfs_salvage.specs.declared.parent.Parent.{Parent}
use Rattle.lfs_salvage.specs.declared.unsaved.Unsaved.{Unsaved}
use Rattle.lfs_salvage.specs.declared.wording.Wording.{Wording}
use Rattle.lfs_salvage.proofs.AreaLemmas.{IsDoing, Plan, all_done, doing_more, doing_stops, entries_more, entries_plan, nothing_done}
use Rattle.lfs_salvage.proofs.SavingLemmas.{below_then, nothing_below}
use Rattle.lfs_salvage.proofs.saving_entries.save_entries.Goals as goal

pub each-init : goal.each-init
each-init g c =
    let old : Option (List Made) = (g.F.Known.known c.args.folder.now).made in
    record {
      doing = nothing_done old c.args.salvage.now.unsaved.items
          (entries_plan (g.B.Blocks.disk c.args.disk.now) c.args.above.now c.args.block c.args.salvage.now.uses.items c.args.area c.args.call 0
          c.args.entries.now);
      below = λ top above. nothing_below top old old refl;
      kept = (refl, refl, refl);
    }

pub returns-in_err-save_entry-clause-made : goal.returns-in_err-save_entry-clause-made
returns-in_err-save_entry-clause-made g c =
    let d : Disk = g.B.Blocks.disk c.args.disk.now in
    let old : Option (List Made) = (g.F.Known.known c.args.folder.now).made in
    let mid : Option (List Made) = (g.F.Known.known c.each.folder).made in
    let new : Option (List Made) = (g.F.Known.known c.save_entry.new.folder).made in
    let above : List ℕ = c.args.above.now in
    let block : ℕ = c.args.block in
    let es : List StoredEntry = c.args.entries.now in
    let e : StoredEntry = c.index-entries-index.result in
    let i : ℕ = c.each.index in
    let uses : List BlockUse = c.each.salvage.uses.items in
    let parent : Parent = call_parent c.args.area c.args.call i in
    let before : List Unsaved = c.args.salvage.now.unsaved.items in
    let told : List Unsaved = c.each.salvage.unsaved.items in
    let left : List (Option Wording) → Plan = entries_plan d above block uses c.args.area c.args.call i (drop i es) in
    let complete : List (Option Wording) → Plan = entries_plan d above block c.args.salvage.now.uses.items c.args.area c.args.call 0 es in
    let made = c.in_err-save_entry.ensures.made in
    let p = err_from_is_err_and c.from_residual.result c.from_residual.ensures.1 in
    let stop =
    doing_stops old mid before told left complete c.each.invariant.doing made.0 (entry_made d above block i made.0 uses e)
    (entry_unsaved d parent made.0 uses e) (entries_plan d above block (uses_by_entry d uses parent e) c.args.area c.args.call (i + 1) (drop (i + 1) es))
    (λ rest. entries_more d above block uses c.args.area c.args.call i es e made.0 rest c.each-test.true c.index-entries-index.is) new
    c.in_err-save_entry.field-0.0 made.1.0 in
    rw (p.1, p.2) (stop.0, (stop.1, tt))

pub returns-in_err-save_entry-clause-below : goal.returns-in_err-save_entry-clause-below
returns-in_err-save_entry-clause-below g c = λ top above.
    below_then top (g.F.Known.known c.args.folder.now).made (g.F.Known.known c.each.folder).made (g.F.Known.known c.save_entry.new.folder).made
    (c.each.invariant.below top above) (c.save_entry.ensures.below top above)

pub each-preserved : goal.each-preserved
each-preserved g c =
    let d : Disk = g.B.Blocks.disk c.args.disk.now in
    let old : Option (List Made) = (g.F.Known.known c.args.folder.now).made in
    let mid : Option (List Made) = (g.F.Known.known c.each.folder).made in
    let new : Option (List Made) = (g.F.Known.known c.save_entry.new.folder).made in
    let above : List ℕ = c.args.above.now in
    let block : ℕ = c.args.block in
    let es : List StoredEntry = c.args.entries.now in
    let e : StoredEntry = c.index-entries-index.result in
    let i : ℕ = c.each.index in
    let uses : List BlockUse = c.each.salvage.uses.items in
    let parent : Parent = call_parent c.args.area c.args.call i in
    let before : List Unsaved = c.args.salvage.now.unsaved.items in
    let told : List Unsaved = c.each.salvage.unsaved.items in
    let left : List (Option Wording) → Plan = entries_plan d above block uses c.args.area c.args.call i (drop i es) in
    let complete : List (Option Wording) → Plan = entries_plan d above block c.args.salvage.now.uses.items c.args.area c.args.call 0 es in
    let more : List Unsaved = c.save_entry.new.salvage.unsaved.items in
    let next : List BlockUse → List (Option Wording) → Plan = λ (t : List BlockUse).
    entries_plan d above block t c.args.area c.args.call (i + 1) (drop (i + 1) es) in
    let made = c.in_ok-save_entry.ensures.made in
    let done : IsDoing old new before more (next (uses_by_entry d uses parent e)) complete =
    doing_more old mid before told left complete c.each.invariant.doing made.0 (entry_made d above block i made.0 uses e)
    (entry_unsaved d parent made.0 uses e) (next (uses_by_entry d uses parent e))
    (λ rest. entries_more d above block uses c.args.area c.args.call i es e made.0 rest c.each-test.true c.index-entries-index.is) new more
    made.1.0 made.1.1 in
    let used : c.save_entry.new.salvage.uses.items ≡ uses_by_entry d uses parent e = c.in_ok-save_entry.ensures.uses in
    record {
      doing = subst (λ (t : List BlockUse). IsDoing old new before more (next t) complete) (sym used) done;
      below = λ top above'. below_then top old mid new (c.each.invariant.below top above') (c.save_entry.ensures.below top above');
      kept = (
        c.save_entry.ensures.kept.0 ∙ c.each.invariant.kept.0,
        c.save_entry.ensures.kept.1 ∙ c.each.invariant.kept.1,
        c.save_entry.ensures.kept.2 ∙ c.each.invariant.kept.2,
      );
    }

pub returns-clause-made : goal.returns-clause-made
returns-clause-made g c =
    let d : Disk = g.B.Blocks.disk c.args.disk.now in
    let old : Option (List Made) = (g.F.Known.known c.args.folder.now).made in
    let new : Option (List Made) = (g.F.Known.known c.each.folder).made in
    let es : List StoredEntry = c.args.entries.now in
    let before : List Unsaved = c.args.salvage.now.unsaved.items in
    let told : List Unsaved = c.each.salvage.unsaved.items in
    let plan : List StoredEntry → List (Option Wording) → Plan =
    entries_plan d c.args.above.now c.args.block c.each.salvage.uses.items c.args.area c.args.call c.each.index in
    let complete : List (Option Wording) → Plan =
    entries_plan d c.args.above.now c.args.block c.args.salvage.now.uses.items c.args.area c.args.call 0 es in
    let done : IsDoing old new before told (plan []) complete =
    subst (λ (left : List (Option Wording) → Plan). IsDoing old new before told left complete) (at_drop_all plan es c.each.index c.each-test.false)
    c.each.invariant.doing in
    all_done old new before told (plan []) complete refl refl done

pub returns-clause-uses : goal.returns-clause-uses
returns-clause-uses g c =
    let d : Disk = g.B.Blocks.disk c.args.disk.now in
    let old : Option (List Made) = (g.F.Known.known c.args.folder.now).made in
    let new : Option (List Made) = (g.F.Known.known c.each.folder).made in
    let es : List StoredEntry = c.args.entries.now in
    let before : List Unsaved = c.args.salvage.now.unsaved.items in
    let told : List Unsaved = c.each.salvage.unsaved.items in
    let plan : List StoredEntry → List (Option Wording) → Plan =
    entries_plan d c.args.above.now c.args.block c.each.salvage.uses.items c.args.area c.args.call c.each.index in
    let complete : List (Option Wording) → Plan =
    entries_plan d c.args.above.now c.args.block c.args.salvage.now.uses.items c.args.area c.args.call 0 es in
    let done : IsDoing old new before told (plan []) complete =
    subst (λ (left : List (Option Wording) → Plan). IsDoing old new before told left complete) (at_drop_all plan es c.each.index c.each-test.false)
    c.each.invariant.doing in
    (done.doing []).uses
