use Rattle.std.proofs.Common.{◌≡◌, ◌++◌, Bor, List, map, subst}
use Rattle.lfs_meta.specs.Name.{Name}
use Rattle.lfs_listing.specs.Inlined.{lines_if_longer}
use Rattle.lfs_listing.proofs.InlinedLemmas.{lines_next, lines_last}
use Rattle.lfs_listing.proofs.inlined.append_longer.Goals as goal

pub loop-row-preserved : goal.loop-row-preserved
loop-row-preserved c =
    lines_next c.args.most _ _ _ _ _ _ _ c.in-Some.row c.loop-row.invariant c.in-Some.ensures.steps c.in_ok-follow_row.ensures
    (subst (λ (ns : List (Bor Name)). c.append_if_longer.new.text.items
    ≡ c.loop-row.text.items ++ lines_if_longer c.args.most (record { path = map (λ (n : Bor Name). n.now) ns; entry = c.in-Some.row.entry }))
    c.deref.ensures.value c.in_ok-append_if_longer.ensures)

pub returns : goal.returns
returns c = lines_last c.args.most _ _ _ _ c.loop-row.invariant c.in-None.ensures.steps.0
