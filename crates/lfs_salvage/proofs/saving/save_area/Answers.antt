-- One call after another.
use Rattle.std.proofs.Common.{◌≡◌, ◌+◌, ◌<◌, ◌≤◌, ◌++◌, [], ◌∷◌, ◌∙◌, List, ℕ, Option, String, ap, drop, get_or, length, map, refl, string_bytes, sym, subst}
use Rattle.std.specs.Global.{Global}
use Rattle.std.specs.Prelude.{All}
use Rattle.std.proofs.lemmas.List.{at_drop_all, map-append}
use Rattle.std.proofs.lemmas.List.Elements.{All-nil, All-push}
use Rattle.std.proofs.lemmas.Result.{err_from_is_err_and}
use Rattle.lfs_block.specs.Disk.{Disk}
use Rattle.lfs_host.specs.NewFolder.{Made}
use Rattle.lfs_salvage.specs.AreaMade.{call_made, call_unsaved, folder_of, found_uses}
use Rattle.lfs_salvage.specs.Below.{IsNameBelow}
use Rattle.lfs_salvage.specs.CallWords.{CallWords}
use Rattle.lfs_salvage.specs.declared.block_use.BlockUse.{BlockUse}
use Rattle.lfs_salvage.specs.declared.unsaved.Unsaved.{Unsaved}
use Rattle.lfs_salvage.proofs.AreaLemmas.{IsDoing, Plan, all_done, calls_more, calls_plan, doing_first, doing_more, doing_stops, nothing_done}
use Rattle.lfs_salvage.proofs.SavingLemmas.{below_then, nothing_below}
use Rattle.lfs_salvage.proofs.WordLemmas.{below_itself}
use Rattle.lfs_survey.specs.declared.area.Area.{Area}
use Rattle.lfs_survey.specs.declared.found.Found.{Found}
use Rattle.lfs_salvage.proofs.saving.save_area.Goals as goal

pub each-init : goal.each-init
each-init g c =
    let d : Disk = g.B.Blocks.disk c.args.disk.now in
    let old : Option (List Made) = (g.F.Known.known c.args.folder.now).made in
    let base : List ℕ = c.args.base.now in
    let a : Area = c.args.area.now in
    let uses : List BlockUse = c.args.salvage.now.uses.items in
    let before : List Unsaved = c.args.salvage.now.unsaved.items in
    let complete : List CallWords → Plan = calls_plan d base a c.args.number 0 [] uses a.found.items in
    let empty : c.new-folders.result.items ≡ [] = c.new-folders.ensures.items in
    let none : map (λ x. string_bytes x) c.new-folders.result.items ≡ [] = ap (map (λ x. string_bytes x)) empty in
    record {
      doing = subst (λ (fs : List (List ℕ)). IsDoing old old before before (calls_plan d base a c.args.number 0 fs uses a.found.items) complete)
          (sym none) (nothing_done old before complete);
      names = subst (All (λ (x : String Global). IsNameBelow base (string_bytes x))) (sym empty)
          (All-nil (λ (x : String Global). IsNameBelow base (string_bytes x)));
      below = nothing_below base old old refl;
      kept = (refl, refl, refl);
    }

pub returns-in_err-name-clause-made : goal.returns-in_err-name-clause-made
returns-in_err-name-clause-made g c =
    let d : Disk = g.B.Blocks.disk c.args.disk.now in
    let old : Option (List Made) = (g.F.Known.known c.args.folder.now).made in
    let mid : Option (List Made) = (g.F.Known.known c.each.folder).made in
    let new : Option (List Made) = (g.F.Known.known c.save_found.new.folder).made in
    let base : List ℕ = c.args.base.now in
    let a : Area = c.args.area.now in
    let f : Found = c.found-item.result in
    let i : ℕ = c.each.call in
    let number : ℕ = c.args.number in
    let uses : List BlockUse = c.each.salvage.uses.items in
    let before : List Unsaved = c.args.salvage.now.unsaved.items in
    let told : List Unsaved = c.each.salvage.unsaved.items in
    let folders : List (List ℕ) = map (λ x. string_bytes x) c.each.folders.items in
    let left : List CallWords → Plan = calls_plan d base a number i folders uses (drop i a.found.items) in
    let complete : List CallWords → Plan = calls_plan d base a number 0 [] c.args.salvage.now.uses.items a.found.items in
    let next : List (List ℕ) → List BlockUse → List CallWords → Plan = λ (fs : List (List ℕ)) (t : List BlockUse).
    calls_plan d base a number (i + 1) fs t (drop (i + 1) a.found.items) in
    let within : i < length a.found.items = subst (λ (fs : List Found). i < length fs) c.deref-found-items.ensures.value c.each-test.true in
    let is : f ≡ get_or a.found.items i f = c.found-item.is ∙ ap (λ (fs : List Found). get_or fs i f) c.deref-found-items.ensures.value in
    let made = rw c.deref.ensures.value at c.in_err-name.ensures.made in
    let p = err_from_is_err_and c.from_residual.result c.from_residual.ensures.1 in
    let stop =
    doing_stops old mid before told left complete c.each.invariant.doing made.0 (call_made d base a number i folders made.0 uses f)
    (call_unsaved d a number i made.0 uses f) (next (folders ++ folder_of base a folders made.0.folder i f ∷ []) (found_uses d uses number i f))
    (λ rest. calls_more d base a number i folders uses a.found.items f made.0 rest within is) new c.in_err-name.field-0.0 made.2.0 in
    rw (p.1, p.2) (stop.0, (stop.1, tt))

pub returns-in_err-name-clause-below : goal.returns-in_err-name-clause-below
returns-in_err-name-clause-below g c =
    let base : List ℕ = c.args.base.now in
    let slice : c.deref.result.now ≡ c.each.folders.items = c.deref.ensures.value in
    let names = subst (All (λ (x : String Global). IsNameBelow base (string_bytes x))) (sym slice) c.each.invariant.names in
    below_then base (g.F.Known.known c.args.folder.now).made (g.F.Known.known c.each.folder).made (g.F.Known.known c.save_found.new.folder).made
    c.each.invariant.below (c.save_found.ensures.below base (below_itself base) names)

pub returns-in_err-name-clause-blamed : goal.returns-in_err-name-clause-blamed
returns-in_err-name-clause-blamed g c =
    let base : List ℕ = c.args.base.now in
    let slice : c.deref.result.now ≡ c.each.folders.items = c.deref.ensures.value in
    let names = subst (All (λ (x : String Global). IsNameBelow base (string_bytes x))) (sym slice) c.each.invariant.names in
    let p = err_from_is_err_and c.from_residual.result c.from_residual.ensures.1 in
    rw (p.1, p.2) (c.in_err-name.ensures.blamed base (below_itself base) names)

pub returns-in_err-push_folder-clause-made : goal.returns-in_err-push_folder-clause-made
returns-in_err-push_folder-clause-made g c =
    let d : Disk = g.B.Blocks.disk c.args.disk.now in
    let old : Option (List Made) = (g.F.Known.known c.args.folder.now).made in
    let mid : Option (List Made) = (g.F.Known.known c.each.folder).made in
    let new : Option (List Made) = (g.F.Known.known c.save_found.new.folder).made in
    let base : List ℕ = c.args.base.now in
    let a : Area = c.args.area.now in
    let f : Found = c.found-item.result in
    let i : ℕ = c.each.call in
    let number : ℕ = c.args.number in
    let uses : List BlockUse = c.each.salvage.uses.items in
    let before : List Unsaved = c.args.salvage.now.unsaved.items in
    let told : List Unsaved = c.each.salvage.unsaved.items in
    let folders : List (List ℕ) = map (λ x. string_bytes x) c.each.folders.items in
    let left : List CallWords → Plan = calls_plan d base a number i folders uses (drop i a.found.items) in
    let complete : List CallWords → Plan = calls_plan d base a number 0 [] c.args.salvage.now.uses.items a.found.items in
    let next : List (List ℕ) → List BlockUse → List CallWords → Plan = λ (fs : List (List ℕ)) (t : List BlockUse).
    calls_plan d base a number (i + 1) fs t (drop (i + 1) a.found.items) in
    let within : i < length a.found.items = subst (λ (fs : List Found). i < length fs) c.deref-found-items.ensures.value c.each-test.true in
    let is : f ≡ get_or a.found.items i f = c.found-item.is ∙ ap (λ (fs : List Found). get_or fs i f) c.deref-found-items.ensures.value in
    let more : List Unsaved = c.save_found.new.salvage.unsaved.items in
    let made = rw c.deref.ensures.value at c.in_ok-name.ensures.made in
    let done : IsDoing old new before more (next (folders ++ folder_of base a folders made.0.folder i f ∷ []) (found_uses d uses number i f)) complete =
    doing_more old mid before told left complete c.each.invariant.doing made.0 (call_made d base a number i folders made.0 uses f)
    (call_unsaved d a number i made.0 uses f) (next (folders ++ folder_of base a folders made.0.folder i f ∷ []) (found_uses d uses number i f))
    (λ rest. calls_more d base a number i folders uses a.found.items f made.0 rest within is) new more made.2.0
    made.2.1 in
    let p = err_from_is_err_and c.from_residual-in_err-push_folder.result c.from_residual-in_err-push_folder.ensures.1 in
    let stop =
    doing_first old new before more (next (folders ++ folder_of base a folders made.0.folder i f ∷ []) (found_uses d uses number i f)) complete
    done in
    rw (p.1, p.2) (stop.0, (stop.1, tt))

pub returns-in_err-push_folder-clause-below : goal.returns-in_err-push_folder-clause-below
returns-in_err-push_folder-clause-below g c =
    let base : List ℕ = c.args.base.now in
    let slice : c.deref.result.now ≡ c.each.folders.items = c.deref.ensures.value in
    let names = subst (All (λ (x : String Global). IsNameBelow base (string_bytes x))) (sym slice) c.each.invariant.names in
    below_then base (g.F.Known.known c.args.folder.now).made (g.F.Known.known c.each.folder).made (g.F.Known.known c.save_found.new.folder).made
    c.each.invariant.below (c.save_found.ensures.below base (below_itself base) names)

pub each-preserved : goal.each-preserved
each-preserved g c =
    let d : Disk = g.B.Blocks.disk c.args.disk.now in
    let old : Option (List Made) = (g.F.Known.known c.args.folder.now).made in
    let mid : Option (List Made) = (g.F.Known.known c.each.folder).made in
    let new : Option (List Made) = (g.F.Known.known c.save_found.new.folder).made in
    let base : List ℕ = c.args.base.now in
    let a : Area = c.args.area.now in
    let f : Found = c.found-item.result in
    let i : ℕ = c.each.call in
    let number : ℕ = c.args.number in
    let uses : List BlockUse = c.each.salvage.uses.items in
    let before : List Unsaved = c.args.salvage.now.unsaved.items in
    let told : List Unsaved = c.each.salvage.unsaved.items in
    let folders : List (List ℕ) = map (λ x. string_bytes x) c.each.folders.items in
    let left : List CallWords → Plan = calls_plan d base a number i folders uses (drop i a.found.items) in
    let complete : List CallWords → Plan = calls_plan d base a number 0 [] c.args.salvage.now.uses.items a.found.items in
    let next : List (List ℕ) → List BlockUse → List CallWords → Plan = λ (fs : List (List ℕ)) (t : List BlockUse).
    calls_plan d base a number (i + 1) fs t (drop (i + 1) a.found.items) in
    let within : i < length a.found.items = subst (λ (fs : List Found). i < length fs) c.deref-found-items.ensures.value c.each-test.true in
    let is : f ≡ get_or a.found.items i f = c.found-item.is ∙ ap (λ (fs : List Found). get_or fs i f) c.deref-found-items.ensures.value in
    let more : List Unsaved = c.save_found.new.salvage.unsaved.items in
    let made = rw c.deref.ensures.value at c.in_ok-name.ensures.made in
    let done : IsDoing old new before more (next (folders ++ folder_of base a folders made.0.folder i f ∷ []) (found_uses d uses number i f)) complete =
    doing_more old mid before told left complete c.each.invariant.doing made.0 (call_made d base a number i folders made.0 uses f)
    (call_unsaved d a number i made.0 uses f) (next (folders ++ folder_of base a folders made.0.folder i f ∷ []) (found_uses d uses number i f))
    (λ rest. calls_more d base a number i folders uses a.found.items f made.0 rest within is) new more made.2.0
    made.2.1 in
    let slice : c.deref.result.now ≡ c.each.folders.items = c.deref.ensures.value in
    let names = subst (All (λ (x : String Global). IsNameBelow base (string_bytes x))) (sym slice) c.each.invariant.names in
    let used : c.save_found.new.salvage.uses.items ≡ found_uses d uses number i f = c.in_ok-name.ensures.uses in
    let more_folders : c.push_folder.new.folders.items ≡ c.each.folders.items ++ c.in_ok-name.name ∷ [] = c.in_ok-push_folder.ensures in
    let pushed : map (λ x. string_bytes x) c.push_folder.new.folders.items ≡ folders ++ folder_of base a folders made.0.folder i f ∷ [] =
    ap (map (λ x. string_bytes x)) more_folders
    ∙ map-append (λ (x : String Global). string_bytes x) c.each.folders.items (c.in_ok-name.name ∷ [])
    ∙ ap (λ (n : List ℕ). folders ++ n ∷ []) made.1 in
    record {
      doing = subst (λ (fs : List (List ℕ)). IsDoing old new before more (next fs c.save_found.new.salvage.uses.items) complete) (sym pushed)
          (subst (λ (t : List BlockUse). IsDoing old new before more (next (folders ++ folder_of base a folders made.0.folder i f ∷ []) t) complete)
          (sym used) done);
      names = subst (All (λ (x : String Global). IsNameBelow base (string_bytes x))) (sym more_folders)
          (All-push (λ (x : String Global). IsNameBelow base (string_bytes x)) c.each.folders.items c.in_ok-name.name c.each.invariant.names
          (c.in_ok-name.ensures.named base (below_itself base) names));
      below = below_then base old mid new c.each.invariant.below (c.save_found.ensures.below base (below_itself base) names);
      kept = (
        c.save_found.ensures.kept.0 ∙ c.each.invariant.kept.0,
        c.save_found.ensures.kept.1 ∙ c.each.invariant.kept.1,
        c.save_found.ensures.kept.2 ∙ c.each.invariant.kept.2,
      );
    }

pub returns-clause-made : goal.returns-clause-made
returns-clause-made g c =
    let d : Disk = g.B.Blocks.disk c.args.disk.now in
    let old : Option (List Made) = (g.F.Known.known c.args.folder.now).made in
    let new : Option (List Made) = (g.F.Known.known c.each.folder).made in
    let a : Area = c.args.area.now in
    let before : List Unsaved = c.args.salvage.now.unsaved.items in
    let told : List Unsaved = c.each.salvage.unsaved.items in
    let plan : List Found → List CallWords → Plan =
    calls_plan d c.args.base.now a c.args.number c.each.call (map (λ x. string_bytes x) c.each.folders.items) c.each.salvage.uses.items in
    let complete : List CallWords → Plan = calls_plan d c.args.base.now a c.args.number 0 [] c.args.salvage.now.uses.items a.found.items in
    let beyond : length a.found.items ≤ c.each.call =
    subst (λ (fs : List Found). length fs ≤ c.each.call) c.deref-found-items.ensures.value c.each-test.false in
    let done : IsDoing old new before told (plan []) complete =
    subst (λ (left : List CallWords → Plan). IsDoing old new before told left complete) (at_drop_all plan a.found.items c.each.call beyond)
    c.each.invariant.doing in
    all_done old new before told (plan []) complete refl refl done

pub returns-clause-uses : goal.returns-clause-uses
returns-clause-uses g c =
    let d : Disk = g.B.Blocks.disk c.args.disk.now in
    let old : Option (List Made) = (g.F.Known.known c.args.folder.now).made in
    let new : Option (List Made) = (g.F.Known.known c.each.folder).made in
    let a : Area = c.args.area.now in
    let before : List Unsaved = c.args.salvage.now.unsaved.items in
    let told : List Unsaved = c.each.salvage.unsaved.items in
    let plan : List Found → List CallWords → Plan =
    calls_plan d c.args.base.now a c.args.number c.each.call (map (λ x. string_bytes x) c.each.folders.items) c.each.salvage.uses.items in
    let complete : List CallWords → Plan = calls_plan d c.args.base.now a c.args.number 0 [] c.args.salvage.now.uses.items a.found.items in
    let beyond : length a.found.items ≤ c.each.call =
    subst (λ (fs : List Found). length fs ≤ c.each.call) c.deref-found-items.ensures.value c.each-test.false in
    let done : IsDoing old new before told (plan []) complete =
    subst (λ (left : List CallWords → Plan). IsDoing old new before told left complete) (at_drop_all plan a.found.items c.each.call beyond)
    c.each.invariant.doing in
    (done.doing []).uses
