-- The folder, and then the files.
use Rattle.std.proofs.Common.{◌≡◌, ◌∙◌, [], List, ℕ, Option, Some, ap, map, string_bytes, subst, sym}
use Rattle.std.specs.Prelude.{◌++◌, IfOk, OnOk}
use Rattle.std.proofs.lemmas.Result.{err_from_is_err_and}
use Rattle.lfs_block.specs.Disk.{Disk}
use Rattle.lfs_extract.specs.declared.extract_fault.ExtractFault.TheVariants.{Memory}
use Rattle.lfs_host.specs.NewFolder.{Made}
use Rattle.lfs_meta.specs.Body.{Pair}
use Rattle.lfs_meta.specs.Part.{StoredPart}
use Rattle.lfs_salvage.specs.AreaMade.{call_made, call_unsaved, entries_unsaved, folder_made, folder_of, folder_unsaved, way_parent}
use Rattle.lfs_salvage.specs.Below.{IsNameBelow}
use Rattle.lfs_salvage.specs.Folder.{folder_at, way_at}
use Rattle.lfs_salvage.specs.CallWords.{CallWords}
use Rattle.lfs_salvage.specs.Saving.{Saves}
use Rattle.lfs_salvage.specs.Unsaved.{nameless}
use Rattle.lfs_salvage.specs.declared.block_use.BlockUse.{BlockUse}
use Rattle.lfs_salvage.specs.declared.parent.Parent.{Parent}
use Rattle.lfs_salvage.specs.declared.unsaved.Unsaved.{Unsaved}
use Rattle.lfs_salvage.specs.declared.wording.Wording.TheVariants.{Own}
use Rattle.lfs_salvage.proofs.AreaLemmas.{entries_done, entries_stop, folder_is, start_stops, unsaved_is}
use Rattle.lfs_salvage.proofs.SavedLemmas.{all_first, told_then}
use Rattle.lfs_salvage.proofs.SavingLemmas.{below_then, nothing_saved, nothing_told}
use Rattle.lfs_survey.specs.declared.area.Area.{Area}
use Rattle.lfs_survey.specs.declared.call.Call.{Call}
use Rattle.lfs_survey.specs.declared.found.Found.{Found}
use Rattle.lfs_survey.specs.declared.found.Found.TheVariants.{Part}
use Rattle.lfs_survey.specs.declared.way.Way.{Way}
use Rattle.lfs_salvage.proofs.saving.save_found.Goals as goal

pub returns-in-Refused-clause-made : goal.returns-in-Refused-clause-made
returns-in-Refused-clause-made g c =
    let d : Disk = g.B.Blocks.disk c.args.disk.now in
    let old : Option (List Made) = (g.F.Known.known c.args.folder.now).made in
    let base : List ℕ = c.args.base.now in
    let a : Area = c.args.area.now in
    let call : ℕ = c.args.call in
    let folders : List (List ℕ) = map (λ f. string_bytes f) c.args.folders.now in
    let uses : List BlockUse = c.args.salvage.now.uses.items in
    let f : Found = c.args.found.now in
    let told : List Unsaved = c.args.salvage.now.unsaved.items in
    let none : CallWords = record { folder = Some Own; entries = [] } in
    let named =
    subst (λ (x : Found). IfOk c.name_of.result (λ name. string_bytes name ≡ folder_of base a folders (Some Own) call x)) (sym c.in-Refused.is)
    c.name_of.ensures.value in
    let saves =
    subst (λ (x : Found). Saves c.name_of.result old old (call_made d base a c.args.number call folders none uses x)) (sym c.in-Refused.is)
    (nothing_saved c.name_of.result old c.name_of.ensures.stopped) in
    let unsaved =
    subst (λ (x : Found). OnOk c.name_of.result (told ≡ told ++ call_unsaved d a c.args.number call none uses x)) (sym c.in-Refused.is)
    (nothing_told c.name_of.result told) in
    (none, named, (saves, unsaved))

pub returns-in_err-here-clause-made : goal.returns-in_err-here-clause-made
returns-in_err-here-clause-made g c =
    let d : Disk = g.B.Blocks.disk c.args.disk.now in
    let old : Option (List Made) = (g.F.Known.known c.args.folder.now).made in
    let base : List ℕ = c.args.base.now in
    let a : Area = c.args.area.now in
    let call : ℕ = c.args.call in
    let folders : List (List ℕ) = map (λ f. string_bytes f) c.args.folders.now in
    let uses : List BlockUse = c.args.salvage.now.uses.items in
    let f : Found = c.args.found.now in
    let way : Way = c.way_at-way.result in
    let found : List Found = c.deref-2.result.now in
    let by_calls : way ≡ way_at c.deref.result.now call = c.way_at-way.ensures in
    let calls : c.deref.result.now ≡ a.calls.items = c.deref.ensures.value in
    let by_way : way ≡ way_at a.calls.items call = by_calls ∙ ap (λ (cs : List Call). way_at cs call) calls in
    let mid : Option (List Made) = (g.F.Known.known c.start_folder.new.folder).made in
    let made = c.in_err-here.ensures.made in
    let stop = start_stops d base a c.args.number call folders uses f _ c.in-Part.is way found by_way c.deref-2.ensures.value made.0 old mid
    c.in_err-here.field-0.0 made.2 in
    let p = err_from_is_err_and c.from_residual.result c.from_residual.ensures.1 in
    rw (p.1, p.2) (stop.0, tt, (stop.1, tt))

pub returns-in_err-keep_nameless-clause-made : goal.returns-in_err-keep_nameless-clause-made
returns-in_err-keep_nameless-clause-made g c =
    let d : Disk = g.B.Blocks.disk c.args.disk.now in
    let old : Option (List Made) = (g.F.Known.known c.args.folder.now).made in
    let base : List ℕ = c.args.base.now in
    let a : Area = c.args.area.now in
    let call : ℕ = c.args.call in
    let folders : List (List ℕ) = map (λ f. string_bytes f) c.args.folders.now in
    let uses : List BlockUse = c.args.salvage.now.uses.items in
    let f : Found = c.args.found.now in
    let way : Way = c.way_at-way.result in
    let found : List Found = c.deref-2.result.now in
    let by_calls : way ≡ way_at c.deref.result.now call = c.way_at-way.ensures in
    let calls : c.deref.result.now ≡ a.calls.items = c.deref.ensures.value in
    let by_way : way ≡ way_at a.calls.items call = by_calls ∙ ap (λ (cs : List Call). way_at cs call) calls in
    let mid : Option (List Made) = (g.F.Known.known c.start_folder.new.folder).made in
    let made = c.in_ok-here.ensures.made in
    let stop = start_stops d base a c.args.number call folders uses f _ c.in-Part.is way found by_way c.deref-2.ensures.value made.0 old mid
    Memory (all_first old mid (folder_made way made.0 (folder_at base found folders made.0 way)) made.2) in
    let p = err_from_is_err_and c.from_residual-in_err-keep_nameless.result c.from_residual-in_err-keep_nameless.ensures.1 in
    rw (p.1, p.2) (stop.0, tt, (stop.1, tt))

pub returns-in_err-save_entries-clause-made : goal.returns-in_err-save_entries-clause-made
returns-in_err-save_entries-clause-made g c =
    let d : Disk = g.B.Blocks.disk c.args.disk.now in
    let old : Option (List Made) = (g.F.Known.known c.args.folder.now).made in
    let base : List ℕ = c.args.base.now in
    let a : Area = c.args.area.now in
    let call : ℕ = c.args.call in
    let folders : List (List ℕ) = map (λ f. string_bytes f) c.args.folders.now in
    let uses : List BlockUse = c.args.salvage.now.uses.items in
    let f : Found = c.args.found.now in
    let way : Way = c.way_at-way.result in
    let found : List Found = c.deref-2.result.now in
    let by_calls : way ≡ way_at c.deref.result.now call = c.way_at-way.ensures in
    let calls : c.deref.result.now ≡ a.calls.items = c.deref.ensures.value in
    let by_way : way ≡ way_at a.calls.items call = by_calls ∙ ap (λ (cs : List Call). way_at cs call) calls in
    let mid : Option (List Made) = (g.F.Known.known c.start_folder.new.folder).made in
    let new : Option (List Made) = (g.F.Known.known c.save_entries.new.folder).made in
    let is = c.in-Part.is ∙ ap (λ (p : Pair × StoredPart). Part p) (sym c.part.view_is) in
    let text : c.as_str.result.now ≡ string_bytes c.in_ok-here.here.name = c.as_str.ensures.value in
    let begun = c.in_ok-here.ensures.made in
    let made = rw c.in_ok-keep_nameless.ensures.uses at c.in_err-save_entries.ensures.made in
    let ws : CallWords = record { folder = begun.0; entries = made.0 } in
    let p = err_from_is_err_and c.from_residual-in_err-save_entries.result c.from_residual-in_err-save_entries.ensures.1 in
    let stop =
    entries_stop d base a c.args.number call folders uses f _ is way found by_way c.deref-2.ensures.value ws
    c.as_str.result.now (text ∙ begun.1.0) c.deref-3.result.now c.deref-3.ensures.value old mid new begun.2
    c.in_err-save_entries.field-0.0 made.1.0 in
    rw (p.1, p.2) (ws, tt, (stop, tt))

pub returns-in_err-save_entries-clause-below : goal.returns-in_err-save_entries-clause-below
returns-in_err-save_entries-clause-below g c = λ top above all.
    below_then top (g.F.Known.known c.args.folder.now).made (g.F.Known.known c.start_folder.new.folder).made
    (g.F.Known.known c.save_entries.new.folder).made (c.start_folder.ensures.below top above all)
    (c.save_entries.ensures.below top (subst (IsNameBelow top) (sym c.as_str.ensures.value) (c.in_ok-here.ensures.named top above all)))

pub returns-in_err-save_entries-clause-blamed : goal.returns-in_err-save_entries-clause-blamed
returns-in_err-save_entries-clause-blamed g c = λ top above all.
    let p = err_from_is_err_and c.from_residual-in_err-save_entries.result c.from_residual-in_err-save_entries.ensures.1 in
    rw (p.1, p.2) (c.in_err-save_entries.ensures.blamed top
    (subst (IsNameBelow top) (sym c.as_str.ensures.value) (c.in_ok-here.ensures.named top above all)))

pub returns-clause-made : goal.returns-clause-made
returns-clause-made g c =
    let d : Disk = g.B.Blocks.disk c.args.disk.now in
    let old : Option (List Made) = (g.F.Known.known c.args.folder.now).made in
    let base : List ℕ = c.args.base.now in
    let a : Area = c.args.area.now in
    let call : ℕ = c.args.call in
    let folders : List (List ℕ) = map (λ f. string_bytes f) c.args.folders.now in
    let uses : List BlockUse = c.args.salvage.now.uses.items in
    let f : Found = c.args.found.now in
    let way : Way = c.way_at-way.result in
    let found : List Found = c.deref-2.result.now in
    let by_calls : way ≡ way_at c.deref.result.now call = c.way_at-way.ensures in
    let calls : c.deref.result.now ≡ a.calls.items = c.deref.ensures.value in
    let by_way : way ≡ way_at a.calls.items call = by_calls ∙ ap (λ (cs : List Call). way_at cs call) calls in
    let mid : Option (List Made) = (g.F.Known.known c.start_folder.new.folder).made in
    let new : Option (List Made) = (g.F.Known.known c.save_entries.new.folder).made in
    let is = c.in-Part.is ∙ ap (λ (p : Pair × StoredPart). Part p) (sym c.part.view_is) in
    let text : c.as_str.result.now ≡ string_bytes c.in_ok-here.here.name = c.as_str.ensures.value in
    let before : List Unsaved = c.args.salvage.now.unsaved.items in
    let told : List Unsaved = c.keep_nameless.new.self.unsaved.items in
    let begun = c.in_ok-here.ensures.made in
    let made = rw c.in_ok-keep_nameless.ensures.uses at c.in_ok-save_entries.ensures.made in
    let ws : CallWords = record { folder = begun.0; entries = made.0 } in
    let saves =
    entries_done d base a c.args.number call folders uses f _ is way found by_way c.deref-2.ensures.value ws c.as_str.result.now
    (text ∙ begun.1.0) c.deref-3.result.now c.deref-3.ensures.value old mid new begun.2 made.1.0 in
    let first : told ≡ before ++ folder_unsaved c.args.number way begun.0 =
    c.in_ok-keep_nameless.ensures.unsaved ∙ ap (λ (u : List Unsaved). before ++ u)
    (ap (λ (p : Parent). nameless p c.in_ok-here.here.is_nameless) c.way_parent.ensures ∙ ap (nameless (way_parent c.args.number way)) begun.1.1) in
    let unsaved =
    told_then before told c.save_entries.new.salvage.unsaved.items (folder_unsaved c.args.number way begun.0)
    (entries_unsaved d made.0 uses c.args.number call 0 c.deref-3.result.now) (call_unsaved d a c.args.number call ws uses f) first made.1.1
    (unsaved_is d base a c.args.number call folders uses f _ is way found by_way c.deref-2.ensures.value ws c.deref-3.result.now
    c.deref-3.ensures.value) in (
      ws,
      begun.1.0 ∙ folder_is d base a c.args.number call folders uses f _ is way found by_way c.deref-2.ensures.value begun.0,
      (saves, unsaved),
    )

pub returns-clause-below : goal.returns-clause-below
returns-clause-below g c = λ top above all.
    below_then top (g.F.Known.known c.args.folder.now).made (g.F.Known.known c.start_folder.new.folder).made
    (g.F.Known.known c.save_entries.new.folder).made (c.start_folder.ensures.below top above all)
    (c.save_entries.ensures.below top (subst (IsNameBelow top) (sym c.as_str.ensures.value) (c.in_ok-here.ensures.named top above all)))
