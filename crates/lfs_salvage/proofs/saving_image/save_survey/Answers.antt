-- The root's area, and then those at which the thread goes on.
use Rattle.std.proofs.Common.{◌≡◌, ◌∙◌, ◌++◌, [], ◌∷◌, List, ℕ, Option, append-nil, ap, sym, subst}
use Rattle.std.proofs.lemmas.List.{nil_from_length}
use Rattle.std.proofs.lemmas.Result.{err_from_is_err_and, on_ok_weaker}
use Rattle.lfs_block.specs.Disk.{Disk}
use Rattle.lfs_extract.proofs.MakingLemmas.{makes_nothing}
use Rattle.lfs_host.specs.NewFolder.{Made, Makes}
use Rattle.lfs_salvage.specs.AllMade.{all_lost_made, all_lost_unsaved}
use Rattle.lfs_salvage.specs.AreaMade.{area_made, area_unsaved, area_uses}
use Rattle.lfs_salvage.specs.Lost.{front_behind_root}
use Rattle.lfs_salvage.specs.Saved.{survey_made, survey_unsaved}
use Rattle.lfs_salvage.specs.Saving.{Saves, Stops}
use Rattle.lfs_salvage.specs.declared.block_use.BlockUse.{BlockUse}
use Rattle.lfs_salvage.specs.declared.front.Front.{Front}
use Rattle.lfs_salvage.specs.declared.unsaved.Unsaved.{Unsaved}
use Rattle.lfs_salvage.proofs.SavedLemmas.{survey_is_front, survey_is_made, survey_is_unsaved, survey_is_used, told_on}
use Rattle.lfs_salvage.proofs.SavingLemmas.{below_then, stops_first, then_saves}
use Rattle.lfs_survey.specs.declared.area.Area.{Area}
use Rattle.lfs_salvage.proofs.saving_image.save_survey.Goals as goal

pub returns-in_default-clause-made : goal.returns-in_default-clause-made
returns-in_default-clause-made g c =
    let d : Disk = g.B.Blocks.disk c.args.disk.now in
    let old : Option (List Made) = (g.F.Known.known c.args.folder.now).made in
    let told : List Unsaved = c.args.salvage.now.unsaved.items in
    let none : c.args.areas.now ≡ [] = nil_from_length c.args.areas.now c.in_default.ensures.cases in
    let made =
    subst (λ (xs : List Area). Makes old old (survey_made d c.args.dir.now c.args.lost.now [] c.args.salvage.now.uses.items xs)) (sym none)
    (makes_nothing old) in
    let unsaved =
    subst (λ (xs : List Area). told ≡ told ++ survey_unsaved d [] c.args.salvage.now.uses.items xs) (sym none) (sym (append-nil told)) in
    ([], (made, unsaved))

pub returns-in_err-save_area-clause-made : goal.returns-in_err-save_area-clause-made
returns-in_err-save_area-clause-made g c =
    let d : Disk = g.B.Blocks.disk c.args.disk.now in
    let old : Option (List Made) = (g.F.Known.known c.args.folder.now).made in
    let new : Option (List Made) = (g.F.Known.known c.save_area.new.folder).made in
    let dir : List ℕ = c.args.dir.now in
    let lost : List ℕ = c.args.lost.now in
    let uses : List BlockUse = c.args.salvage.now.uses.items in
    let root : Area = c.in-Some.root.now in
    let later : List Area = c.in-Some.later.now in
    let all : c.args.areas.now ≡ root ∷ later = c.in-Some.ensures.cases.0 in
    let p = err_from_is_err_and c.from_residual.result c.from_residual.ensures.1 in
    let made = c.in_err-save_area.ensures.made in
    let stop =
    subst (λ (xs : List Area). Stops c.in_err-save_area.field-0.0 old new (survey_made d dir lost (made.0 ∷ []) uses xs)) (sym all)
    (stops_first c.in_err-save_area.field-0.0 old new (area_made d dir 0 made.0 uses root)
    (all_lost_made d dir lost (front_behind_root root.found.items) 1 [] (area_uses d 0 uses root) later) made.1.0) in
    rw (p.1, p.2) (made.0 ∷ [], (stop, tt))

pub returns-clause-made : goal.returns-clause-made
returns-clause-made g c =
    let d : Disk = g.B.Blocks.disk c.args.disk.now in
    let old : Option (List Made) = (g.F.Known.known c.args.folder.now).made in
    let mid : Option (List Made) = (g.F.Known.known c.save_area.new.folder).made in
    let new : Option (List Made) = (g.F.Known.known c.save_all_lost.new.folder).made in
    let dir : List ℕ = c.args.dir.now in
    let lost : List ℕ = c.args.lost.now in
    let uses : List BlockUse = c.args.salvage.now.uses.items in
    let used : List BlockUse = c.save_area.new.salvage.uses.items in
    let root : Area = c.in-Some.root.now in
    let later : List Area = c.in-Some.later.now in
    let front : Front = c.front_behind_root.result in
    let lacks : front ≡ front_behind_root root.found.items = c.front_behind_root.ensures ∙ ap front_behind_root c.deref.ensures.value in
    let first = c.in_ok-save_area.ensures.made in
    let others = c.save_all_lost.ensures.made in
    let saves =
    subst (λ (m : List Made). Saves c.save_all_lost.result old new m)
    (survey_is_made d uses used c.args.areas.now root later c.in-Some.ensures.cases.0 dir lost front first.0 others.0 lacks
    c.in_ok-save_area.ensures.uses)
    (then_saves c.save_all_lost.result old mid new (area_made d dir 0 first.0 uses root) (all_lost_made d dir lost front 1 others.0 used later)
    first.1.0 others.1.0) in
    let unsaved =
    told_on c.save_all_lost.result c.args.salvage.now.unsaved.items c.save_area.new.salvage.unsaved.items
    c.save_all_lost.new.salvage.unsaved.items (area_unsaved d 0 first.0 uses root) (all_lost_unsaved d 1 others.0 used later)
    (survey_unsaved d (first.0 ∷ others.0) uses c.args.areas.now) first.1.1
    (survey_is_unsaved d uses used c.args.areas.now root later c.in-Some.ensures.cases.0 first.0 others.0 c.in_ok-save_area.ensures.uses)
    others.1.1 in
    (first.0 ∷ others.0, (saves, unsaved))

pub returns-clause-uses : goal.returns-clause-uses
returns-clause-uses g c =
    on_ok_weaker c.save_all_lost.result (λ same. same ∙ survey_is_used (g.B.Blocks.disk c.args.disk.now) c.args.salvage.now.uses.items
    c.save_area.new.salvage.uses.items c.args.areas.now c.in-Some.root.now c.in-Some.later.now c.in-Some.ensures.cases.0
    c.in_ok-save_area.ensures.uses) c.save_all_lost.ensures.uses

pub returns-clause-front : goal.returns-clause-front
returns-clause-front g c =
    let lacks : c.front_behind_root.result ≡ front_behind_root c.in-Some.root.now.found.items =
    c.front_behind_root.ensures ∙ ap front_behind_root c.deref.ensures.value in
    on_ok_weaker c.save_all_lost.result (λ same. same ∙ survey_is_front c.args.areas.now c.in-Some.root.now c.in-Some.later.now
    c.front_behind_root.result c.in-Some.ensures.cases.0 lacks) c.save_all_lost.ensures.front

pub returns-clause-below : goal.returns-clause-below
returns-clause-below g c =
    below_then c.args.dir.now (g.F.Known.known c.args.folder.now).made (g.F.Known.known c.save_area.new.folder).made
    (g.F.Known.known c.save_all_lost.new.folder).made c.save_area.ensures.below c.save_all_lost.ensures.below
