-- The walk goes to the directory of the last name.
use Rattle.std.proofs.Common.{◌≡◌, List, map, ap, subst, sym, ◌∙◌, Bor}
use Rattle.std.proofs.lemmas.Result.{err_from_is_err_and}
use Rattle.lfs_meta.specs.Name.{Name}
use Rattle.lfs_fs.specs.Directory.{Directory}
use Rattle.lfs_fs.specs.Pair.{root}
use Rattle.lfs_fs.specs.Path.{Path}
use Rattle.lfs_fs.specs.Volume.{Volume}
use Rattle.lfs_law.specs.PairWalk.{pair_at}
use Rattle.lfs_law.specs.WalkRefusal.{walk_all}
use Rattle.lfs_law.proofs.ParentSteps.{names_are, is_parent, unrefused, refused}
use Rattle.lfs_draft.specs.Editable.{BeginOnce}
use Rattle.lfs_draft.proofs.EditableLemmas.{begin_once}
use Rattle.lfs_draft.proofs.NoParent.{no_parent}
use Rattle.lfs_draft.proofs.parent.parent_of.Goals as goal

pub walk-requires-clause-once : goal.walk-requires-clause-once
walk-requires-clause-once c =
    subst BeginOnce (sym (c.deref.ensures.value ∙ ap (λ (v : Volume). v.directories) c.outline.view_is))
    (begin_once c.args.outline.now c.requires)

pub returns-in_err-pair-clause-refused : goal.returns-in_err-pair-clause-refused
returns-in_err-pair-clause-refused c =
    let front : Path = map (λ (x : Bor Name). x.now) c.in-Some.fronts.now in
    let same : c.deref.result.now ≡ c.args.outline.now.directories = c.deref.ensures.value
    ∙ ap (λ (v : Volume). v.directories) c.outline.view_is in
    let p = err_from_is_err_and c.from_residual.result c.from_residual.ensures.1 in
    rw (p.1, p.2) (
    refused c.args.outline.now (map (λ (x : Bor Name). x.now) c.args.names.now) front c.in-Some.name.now.now c.in_err-pair.field-0.0
    (names_are c.args.names.now c.in-Some.fronts.now c.in-Some.name.now c.in-Some.ensures.cases.0)
    (ap (λ (ds : List Directory). walk_all ds root front) (sym same) ∙ c.in_err-pair.ensures.refused))

pub returns-in_err-pair-clause-none : goal.returns-in_err-pair-clause-none
returns-in_err-pair-clause-none c =
    let front : Path = map (λ (x : Bor Name). x.now) c.in-Some.fronts.now in
    let same : c.deref.result.now ≡ c.args.outline.now.directories = c.deref.ensures.value
    ∙ ap (λ (v : Volume). v.directories) c.outline.view_is in
    let p = err_from_is_err_and c.from_residual.result c.from_residual.ensures.1 in
    rw p.1 (
    no_parent c.args.outline.now (map (λ (x : Bor Name). x.now) c.args.names.now) front c.in-Some.name.now.now c.in_err-pair.field-0.0
    (names_are c.args.names.now c.in-Some.fronts.now c.in-Some.name.now c.in-Some.ensures.cases.0)
    (ap (λ (ds : List Directory). walk_all ds root front) (sym same) ∙ c.in_err-pair.ensures.refused))

pub returns-clause-parent : goal.returns-clause-parent
returns-clause-parent c =
    let front : Path = map (λ (x : Bor Name). x.now) c.in-Some.fronts.now in
    let same : c.deref.result.now ≡ c.args.outline.now.directories = c.deref.ensures.value
    ∙ ap (λ (v : Volume). v.directories) c.outline.view_is in
    is_parent c.args.outline.now (map (λ (x : Bor Name). x.now) c.args.names.now) front c.in-Some.name.now.now c.in_ok-pair.pair
    (names_are c.args.names.now c.in-Some.fronts.now c.in-Some.name.now c.in-Some.ensures.cases.0)
    (ap (λ (ds : List Directory). pair_at ds root front) (sym same) ∙ c.in_ok-pair.ensures.there)

pub returns-clause-unrefused : goal.returns-clause-unrefused
returns-clause-unrefused c =
    let front : Path = map (λ (x : Bor Name). x.now) c.in-Some.fronts.now in
    let same : c.deref.result.now ≡ c.args.outline.now.directories = c.deref.ensures.value
    ∙ ap (λ (v : Volume). v.directories) c.outline.view_is in
    unrefused c.args.outline.now (map (λ (x : Bor Name). x.now) c.args.names.now) front c.in-Some.name.now.now
    (names_are c.args.names.now c.in-Some.fronts.now c.in-Some.name.now c.in-Some.ensures.cases.0)
    (ap (λ (ds : List Directory). walk_all ds root front) (sym same) ∙ c.in_ok-pair.ensures.unrefused)
