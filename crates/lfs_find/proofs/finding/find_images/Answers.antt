use Rattle.std.proofs.Common.{◌+◌, ℕ, List, subst, sym, ◌∙◌}
use Rattle.lfs_find.specs.Found.{IsLooked}
use Rattle.lfs_find.specs.declared.found.Found.{Found}
use Rattle.lfs_find.proofs.FoundLemmas.{GoesOn, all_found, looked_more, passed_more}
use Rattle.lfs_find.proofs.finding.find_images.Goals as goal

pub loop-at-preserved-then-not-looks_at : goal.loop-at-preserved-then-not-looks_at
loop-at-preserved-then-not-looks_at c =
    passed_more c.args.bytes.now c.loop-at.found.items c.loop-at.at c.loop-at.search c.loop-at-test.true c.loop-at.invariant
    (sym c.looks_at.ensures ∙ c.if-not-looks_at.true)

pub loop-at-preserved : goal.loop-at-preserved
loop-at-preserved c =
    let looked = subst (λ (sizes : List ℕ). IsLooked c.args.bytes.now sizes c.loop-at.search c.loop-at.at c.in_ok-here.here c.in_ok-here.behind)
    (c.deref.ensures.value ∙ c.in_ok-sizes.ensures.stated) c.in_ok-here.ensures in
    subst (λ (found : List Found). GoesOn c.args.bytes.now found (c.loop-at.at + 1) c.in_ok-here.behind) (sym c.in_ok-push_found.ensures)
    (looked_more c.args.bytes.now c.loop-at.found.items c.loop-at.at c.loop-at.search c.in_ok-here.here c.in_ok-here.behind
    c.loop-at-test.true c.loop-at.invariant (sym c.looks_at.ensures ∙ c.if-not-looks_at.false) looked)

pub returns : goal.returns
returns c = all_found c.args.bytes.now c.loop-at.found.items c.loop-at.at c.loop-at.search c.loop-at-test.false c.loop-at.invariant
