-- The folders that lack, and then what is found.
use Rattle.std.proofs.Common.{◌≡◌, ◌∙◌, ◌++◌, [], List, ℕ, Option, true, false, append-nil, ap, sym, subst}
use Rattle.std.proofs.lemmas.Result.{err_from_is_err_and}
use Rattle.lfs_block.specs.Disk.{Disk}
use Rattle.lfs_extract.proofs.MakingLemmas.{makes_nothing}
use Rattle.lfs_host.specs.NewFolder.{Made, Makes}
use Rattle.lfs_salvage.specs.AllMade.{lost_made, lost_unsaved}
use Rattle.lfs_salvage.specs.AreaMade.{area_made, area_unsaved}
use Rattle.lfs_salvage.specs.Below.{IsNameBelow}
use Rattle.lfs_salvage.specs.Lost.{area_folder, front_made, has_start}
use Rattle.lfs_salvage.specs.Saving.{Saves, Stops}
use Rattle.lfs_salvage.specs.declared.block_use.BlockUse.{BlockUse}
use Rattle.lfs_salvage.specs.declared.front.Front.{Front}
use Rattle.lfs_salvage.specs.declared.unsaved.Unsaved.{Unsaved}
use Rattle.lfs_salvage.proofs.LostFolderLemmas.{blamed_below, made_below}
use Rattle.lfs_salvage.proofs.LostLemmas.{none_made, none_unsaved, some_made, some_unsaved}
use Rattle.lfs_salvage.proofs.SavedLemmas.{told_as}
use Rattle.lfs_salvage.proofs.SavingLemmas.{below_then, none_first, stops_first, then_saves}
use Rattle.lfs_survey.specs.declared.area.Area.{Area}
use Rattle.lfs_salvage.proofs.saving_lost.save_lost.Goals as goal

pub returns-then-not-has_start-clause-made : goal.returns-then-not-has_start-clause-made
returns-then-not-has_start-clause-made g c =
    let d : Disk = g.B.Blocks.disk c.args.disk.now in
    let old : Option (List Made) = (g.F.Known.known c.args.folder.now).made in
    let a : Area = c.args.area.now in
    let told : List Unsaved = c.args.salvage.now.unsaved.items in
    let is : has_start a.found.items ≡ false = sym (c.if-not-has_start.ensures ∙ ap has_start c.deref.ensures.value) in
    let made =
    subst (λ (m : List Made). Makes old old m)
    (sym (none_made d c.args.dir.now c.args.lost.now c.args.front.now c.args.number [] c.args.salvage.now.uses.items a is)) (makes_nothing old) in
    let none = none_unsaved d c.args.number [] c.args.salvage.now.uses.items a is in
    ([], (made, sym (append-nil told) ∙ ap (λ (us : List Unsaved). told ++ us) (sym none)))

pub returns-in_err-base-clause-made : goal.returns-in_err-base-clause-made
returns-in_err-base-clause-made g c =
    let p = err_from_is_err_and c.from_residual.result c.from_residual.ensures.1 in
    let stop =
    none_first (g.F.Known.known c.args.folder.now).made
    (lost_made (g.B.Blocks.disk c.args.disk.now) c.args.dir.now c.args.lost.now c.args.front.now c.args.number [] c.args.salvage.now.uses.items
    c.args.area.now) in
    rw (p.1, p.2) ([], (stop, tt))

pub returns-in_err-make_front-clause-made : goal.returns-in_err-make_front-clause-made
returns-in_err-make_front-clause-made g c =
    let d : Disk = g.B.Blocks.disk c.args.disk.now in
    let old : Option (List Made) = (g.F.Known.known c.args.folder.now).made in
    let new : Option (List Made) = (g.F.Known.known c.make_front.new.folder).made in
    let dir : List ℕ = c.args.dir.now in
    let lost : List ℕ = c.args.lost.now in
    let front : Front = c.args.front.now in
    let uses : List BlockUse = c.args.salvage.now.uses.items in
    let a : Area = c.args.area.now in
    let is : has_start a.found.items ≡ true = sym (c.if-not-has_start.ensures ∙ ap has_start c.deref.ensures.value) in
    let p = err_from_is_err_and c.from_residual-in_err-make_front.result c.from_residual-in_err-make_front.ensures.1 in
    let stop =
    subst (λ (m : List Made). Stops c.in_err-make_front.field-0.0 old new m) (sym (some_made d dir lost front c.args.number [] uses a is))
    (stops_first c.in_err-make_front.field-0.0 old new (front_made dir lost front) (area_made d (area_folder lost a) c.args.number [] uses a)
    c.in_err-make_front.ensures.made) in
    rw (p.1, p.2) ([], (stop, tt))

pub returns-clause-made : goal.returns-clause-made
returns-clause-made g c =
    let d : Disk = g.B.Blocks.disk c.args.disk.now in
    let old : Option (List Made) = (g.F.Known.known c.args.folder.now).made in
    let mid : Option (List Made) = (g.F.Known.known c.make_front.new.folder).made in
    let new : Option (List Made) = (g.F.Known.known c.save_area.new.folder).made in
    let dir : List ℕ = c.args.dir.now in
    let lost : List ℕ = c.args.lost.now in
    let front : Front = c.args.front.now in
    let uses : List BlockUse = c.args.salvage.now.uses.items in
    let a : Area = c.args.area.now in
    let is : has_start a.found.items ≡ true = sym (c.if-not-has_start.ensures ∙ ap has_start c.deref.ensures.value) in
    let named : c.as_str.result.now ≡ area_folder lost a = c.as_str.ensures.value ∙ c.in_ok-base.ensures.value in
    let told : List Unsaved = c.args.salvage.now.unsaved.items in
    let made = c.save_area.ensures.made in
    let saves =
    subst (λ (m : List Made). Saves c.save_area.result old new m) (sym (some_made d dir lost front c.args.number made.0 uses a is))
    (then_saves c.save_area.result old mid new (front_made dir lost front) (area_made d (area_folder lost a) c.args.number made.0 uses a)
    c.in_ok-make_front.ensures.made
    (subst (λ (n : List ℕ). Saves c.save_area.result mid new (area_made d n c.args.number made.0 uses a)) named made.1.0)) in
    let unsaved =
    told_as c.save_area.result told c.save_area.new.salvage.unsaved.items (area_unsaved d c.args.number made.0 uses a)
    (lost_unsaved d c.args.number made.0 uses a) (sym (some_unsaved d c.args.number made.0 uses a is)) made.1.1 in
    (made.0, (saves, unsaved))

pub returns-clause-below : goal.returns-clause-below
returns-clause-below g c =
    let dir : List ℕ = c.args.dir.now in
    let old : Option (List Made) = (g.F.Known.known c.args.folder.now).made in
    let mid : Option (List Made) = (g.F.Known.known c.make_front.new.folder).made in
    let new : Option (List Made) = (g.F.Known.known c.save_area.new.folder).made in
    let named : c.as_str.result.now ≡ area_folder c.args.lost.now c.args.area.now = c.as_str.ensures.value ∙ c.in_ok-base.ensures.value in
    let base : IsNameBelow dir c.as_str.result.now = subst (IsNameBelow dir) (sym named) (c.area_folder.ensures.below dir c.requires) in
    below_then dir old mid new c.make_front.ensures.below (made_below dir c.as_str.result.now mid new base c.save_area.ensures.below)

pub returns-clause-blamed : goal.returns-clause-blamed
returns-clause-blamed g c =
    let dir : List ℕ = c.args.dir.now in
    let named : c.as_str.result.now ≡ area_folder c.args.lost.now c.args.area.now = c.as_str.ensures.value ∙ c.in_ok-base.ensures.value in
    let base : IsNameBelow dir c.as_str.result.now = subst (IsNameBelow dir) (sym named) (c.area_folder.ensures.below dir c.requires) in
    blamed_below c.save_area.result dir c.as_str.result.now (g.F.Known.known c.save_area.new.folder) base c.save_area.ensures.blamed
