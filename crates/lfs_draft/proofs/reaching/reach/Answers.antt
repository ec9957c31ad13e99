-- Nothing is there behind the names so far, or a file, or the next directory.
use Rattle.std.proofs.Common.{◌≡◌, ap, sym, ◌∙◌}
use Rattle.lfs_fs.specs.Volume.{Volume}
use Rattle.lfs_draft.proofs.ReachSteps.{all_there, file_there, leads_on, nothing_behind}
use Rattle.lfs_draft.proofs.reaching.reach.Goals as goal

pub returns-in_default : goal.returns-in_default
returns-in_default c =
    let same : c.deref.result.now ≡ c.args.outline.now.directories = c.deref.ensures.value
    ∙ ap (λ (v : Volume). v.directories) c.outline.view_is in
    nothing_behind c.args.outline.now c.deref.result.now c.args.names.now c.each.at _ c.each.pair same c.each-test.true c.each.invariant
    c.in_default.ensures

pub returns-in_default-target : goal.returns-in_default-target
returns-in_default-target c =
    let same : c.deref.result.now ≡ c.args.outline.now.directories = c.deref.ensures.value
    ∙ ap (λ (v : Volume). v.directories) c.outline.view_is in
    file_there c.args.outline.now c.deref.result.now c.args.names.now c.each.at _ c.each.pair c.in-Some.entry.now same c.each-test.true
    c.each.invariant c.in-Some.ensures (sym c.in_default-target.ensures)

pub each-preserved : goal.each-preserved
each-preserved c =
    let same : c.deref.result.now ≡ c.args.outline.now.directories = c.deref.ensures.value
    ∙ ap (λ (v : Volume). v.directories) c.outline.view_is in
    leads_on c.args.outline.now c.deref.result.now c.args.names.now c.each.at _ c.each.pair c.in-Some-target.below c.in-Some.entry.now same
    c.each-test.true c.each.invariant c.in-Some.ensures (sym c.in-Some-target.ensures)

pub returns : goal.returns
returns c = all_there c.args.outline.now c.args.names.now c.each.at c.each.pair c.each-test.false c.each.invariant
