-- One area after another.
use Rattle.std.proofs.Common.{◌≡◌, ◌+◌, ◌∙◌, [], List, ℕ, Option, arith, drop, refl, sym, subst}
use Rattle.std.proofs.lemmas.List.{at_drop_all}
use Rattle.std.proofs.lemmas.Result.{err_from_is_err_and}
use Rattle.lfs_block.specs.Disk.{Disk}
use Rattle.lfs_host.specs.NewFolder.{Made}
use Rattle.lfs_salvage.specs.AllMade.{front_behind_all, lost_made, lost_unsaved, lost_uses}
use Rattle.lfs_salvage.specs.Lost.{front_behind}
use Rattle.lfs_salvage.specs.CallWords.{CallWords}
use Rattle.lfs_salvage.specs.declared.block_use.BlockUse.{BlockUse}
use Rattle.lfs_salvage.specs.declared.front.Front.{Front}
use Rattle.lfs_salvage.specs.declared.unsaved.Unsaved.{Unsaved}
use Rattle.lfs_salvage.proofs.AreaLemmas.{IsDoing, Plan, all_done, doing_more, doing_stops, nothing_done}
use Rattle.lfs_salvage.proofs.LostLemmas.{front_more, lost_more, lost_plan}
use Rattle.lfs_salvage.proofs.SavingLemmas.{below_then, nothing_below}
use Rattle.lfs_survey.specs.declared.area.Area.{Area}
use Rattle.lfs_salvage.proofs.saving_lost.save_all_lost.Goals as goal

pub each-init : goal.each-init
each-init g c =
    let d : Disk = g.B.Blocks.disk c.args.disk.now in
    let old : Option (List Made) = (g.F.Known.known c.args.folder.now).made in
    let before : List Unsaved = c.args.salvage.now.unsaved.items in
    let plan : ℕ → List (List CallWords) → Plan = λ (n : ℕ).
    lost_plan d c.args.dir.now c.args.lost.now c.args.front.now n c.args.salvage.now.uses.items c.args.areas.now in
    let none : c.args.first + 0 ≡ c.args.first = omega arith in
    record {
      doing = subst (λ (n : ℕ). IsDoing old old before before (plan n) (plan c.args.first)) (sym none)
          (nothing_done old before (plan c.args.first));
      front = refl;
      below = nothing_below c.args.dir.now old old refl;
      kept = (refl, refl, refl);
    }

pub returns-in_err-save_lost-clause-made : goal.returns-in_err-save_lost-clause-made
returns-in_err-save_lost-clause-made g c =
    let d : Disk = g.B.Blocks.disk c.args.disk.now in
    let old : Option (List Made) = (g.F.Known.known c.args.folder.now).made in
    let mid : Option (List Made) = (g.F.Known.known c.each.folder).made in
    let new : Option (List Made) = (g.F.Known.known c.save_lost.new.folder).made in
    let dir : List ℕ = c.args.dir.now in
    let lost : List ℕ = c.args.lost.now in
    let areas : List Area = c.args.areas.now in
    let a : Area = c.index-areas-number.result in
    let n : ℕ = c.args.first + c.each.number in
    let uses : List BlockUse = c.each.salvage.uses.items in
    let before : List Unsaved = c.args.salvage.now.unsaved.items in
    let told : List Unsaved = c.each.salvage.unsaved.items in
    let left : List (List CallWords) → Plan = lost_plan d dir lost c.each.front n uses (drop c.each.number areas) in
    let complete : List (List CallWords) → Plan = lost_plan d dir lost c.args.front.now c.args.first c.args.salvage.now.uses.items areas in
    let next : Front → ℕ → List BlockUse → List (List CallWords) → Plan = λ (front : Front) (m : ℕ) (t : List BlockUse).
    lost_plan d dir lost front m t (drop (c.each.number + 1) areas) in
    let made = c.in_err-save_lost.ensures.made in
    let p = err_from_is_err_and c.from_residual.result c.from_residual.ensures.1 in
    let stop =
    doing_stops old mid before told left complete c.each.invariant.doing made.0 (lost_made d dir lost c.each.front n made.0 uses a)
    (lost_unsaved d n made.0 uses a) (next (front_behind c.each.front a) (n + 1) (lost_uses d n uses a))
    (λ rest. lost_more d dir lost c.each.front n c.each.number uses areas a made.0 rest c.each-test.true c.index-areas-number.is) new
    c.in_err-save_lost.field-0.0 made.1.0 in
    rw (p.1, p.2) (stop.0, (stop.1, tt))

pub returns-in_err-save_lost-clause-below : goal.returns-in_err-save_lost-clause-below
returns-in_err-save_lost-clause-below g c =
    below_then c.args.dir.now (g.F.Known.known c.args.folder.now).made (g.F.Known.known c.each.folder).made
    (g.F.Known.known c.save_lost.new.folder).made c.each.invariant.below c.save_lost.ensures.below

pub each-preserved : goal.each-preserved
each-preserved g c =
    let d : Disk = g.B.Blocks.disk c.args.disk.now in
    let old : Option (List Made) = (g.F.Known.known c.args.folder.now).made in
    let mid : Option (List Made) = (g.F.Known.known c.each.folder).made in
    let new : Option (List Made) = (g.F.Known.known c.save_lost.new.folder).made in
    let dir : List ℕ = c.args.dir.now in
    let lost : List ℕ = c.args.lost.now in
    let areas : List Area = c.args.areas.now in
    let a : Area = c.index-areas-number.result in
    let n : ℕ = c.args.first + c.each.number in
    let uses : List BlockUse = c.each.salvage.uses.items in
    let before : List Unsaved = c.args.salvage.now.unsaved.items in
    let told : List Unsaved = c.each.salvage.unsaved.items in
    let left : List (List CallWords) → Plan = lost_plan d dir lost c.each.front n uses (drop c.each.number areas) in
    let complete : List (List CallWords) → Plan = lost_plan d dir lost c.args.front.now c.args.first c.args.salvage.now.uses.items areas in
    let next : Front → ℕ → List BlockUse → List (List CallWords) → Plan = λ (front : Front) (m : ℕ) (t : List BlockUse).
    lost_plan d dir lost front m t (drop (c.each.number + 1) areas) in
    let more : List Unsaved = c.save_lost.new.salvage.unsaved.items in
    let made = c.in_ok-save_lost.ensures.made in
    let done : IsDoing old new before more (next (front_behind c.each.front a) (n + 1) (lost_uses d n uses a)) complete =
    doing_more old mid before told left complete c.each.invariant.doing made.0 (lost_made d dir lost c.each.front n made.0 uses a)
    (lost_unsaved d n made.0 uses a) (next (front_behind c.each.front a) (n + 1) (lost_uses d n uses a))
    (λ rest. lost_more d dir lost c.each.front n c.each.number uses areas a made.0 rest c.each-test.true c.index-areas-number.is) new more
    made.1.0 made.1.1 in
    let used : c.save_lost.new.salvage.uses.items ≡ lost_uses d n uses a = c.in_ok-save_lost.ensures.uses in
    let lacks : c.save_lost.new.front ≡ front_behind c.each.front a = c.in_ok-save_lost.ensures.front in
    let step : front_behind_all c.each.front (drop c.each.number areas)
    ≡ front_behind_all (front_behind c.each.front a) (drop (c.each.number + 1) areas) =
    front_more c.each.front c.each.number areas a c.each-test.true c.index-areas-number.is in
    let ahead : front_behind_all c.each.front (drop c.each.number areas) ≡ front_behind_all c.args.front.now areas = c.each.invariant.front in
    let further : n + 1 ≡ c.args.first + (c.each.number + 1) = omega arith in
    record {
      doing = subst (λ (m : ℕ). IsDoing old new before more (next c.save_lost.new.front m c.save_lost.new.salvage.uses.items) complete) further
          (subst (λ (f : Front). IsDoing old new before more (next f (n + 1) c.save_lost.new.salvage.uses.items) complete)
          (sym lacks)
          (subst (λ (t : List BlockUse). IsDoing old new before more (next (front_behind c.each.front a) (n + 1) t) complete)
          (sym used) done));
      front = subst (λ (f : Front). front_behind_all f (drop (c.each.number + 1) areas) ≡ front_behind_all c.args.front.now areas)
          (sym lacks)
          (sym step ∙ ahead);
      below = below_then dir old mid new c.each.invariant.below c.save_lost.ensures.below;
      kept = (
        c.save_lost.ensures.kept.0 ∙ c.each.invariant.kept.0,
        c.save_lost.ensures.kept.1 ∙ c.each.invariant.kept.1,
        c.save_lost.ensures.kept.2 ∙ c.each.invariant.kept.2,
      );
    }

pub returns-clause-made : goal.returns-clause-made
returns-clause-made g c =
    let d : Disk = g.B.Blocks.disk c.args.disk.now in
    let old : Option (List Made) = (g.F.Known.known c.args.folder.now).made in
    let new : Option (List Made) = (g.F.Known.known c.each.folder).made in
    let areas : List Area = c.args.areas.now in
    let before : List Unsaved = c.args.salvage.now.unsaved.items in
    let told : List Unsaved = c.each.salvage.unsaved.items in
    let plan : List Area → List (List CallWords) → Plan =
    lost_plan d c.args.dir.now c.args.lost.now c.each.front (c.args.first + c.each.number) c.each.salvage.uses.items in
    let complete : List (List CallWords) → Plan =
    lost_plan d c.args.dir.now c.args.lost.now c.args.front.now c.args.first c.args.salvage.now.uses.items areas in
    let done : IsDoing old new before told (plan []) complete =
    subst (λ (left : List (List CallWords) → Plan). IsDoing old new before told left complete)
    (at_drop_all plan areas c.each.number c.each-test.false) c.each.invariant.doing in
    all_done old new before told (plan []) complete refl refl done

pub returns-clause-uses : goal.returns-clause-uses
returns-clause-uses g c =
    let d : Disk = g.B.Blocks.disk c.args.disk.now in
    let old : Option (List Made) = (g.F.Known.known c.args.folder.now).made in
    let new : Option (List Made) = (g.F.Known.known c.each.folder).made in
    let areas : List Area = c.args.areas.now in
    let before : List Unsaved = c.args.salvage.now.unsaved.items in
    let told : List Unsaved = c.each.salvage.unsaved.items in
    let plan : List Area → List (List CallWords) → Plan =
    lost_plan d c.args.dir.now c.args.lost.now c.each.front (c.args.first + c.each.number) c.each.salvage.uses.items in
    let complete : List (List CallWords) → Plan =
    lost_plan d c.args.dir.now c.args.lost.now c.args.front.now c.args.first c.args.salvage.now.uses.items areas in
    let done : IsDoing old new before told (plan []) complete =
    subst (λ (left : List (List CallWords) → Plan). IsDoing old new before told left complete)
    (at_drop_all plan areas c.each.number c.each-test.false) c.each.invariant.doing in
    (done.doing []).uses
