use Rattle.std.proofs.Common.{List, Bor, refl, subst}
use Rattle.lfs_meta.specs.Name.{Name}
use Rattle.lfs_fs.specs.Listed.{rows_listed}
use Rattle.lfs_fs.specs.Path.{Path}
use Rattle.lfs_command.specs.PathMap.{below}
use Rattle.lfs_sync.specs.Shown.{held_of}
use Rattle.lfs_listing.specs.Below.{names}
use Rattle.lfs_sync.specs.Sides.{HoldsMore}
use Rattle.lfs_sync.proofs.HoldLemmas.{shown_now, complete_now}
use Rattle.lfs_sync.proofs.holding.held_rows.Goals as goal

pub loop-row-preserved : goal.loop-row-preserved
loop-row-preserved c =
    let at : Path = names c.args.at.now in
    let q : Path = names c.loop-row.path.items in
    let now : Path = names c.follow_row.new.path.items in
    let holds = subst (λ (l : List (Bor Name)). HoldsMore (below at (names l)) c.in-Some.row c.loop-row.held.items c.hold_row.new.held.items)
    c.deref.ensures.value c.in_ok-hold_row.ensures in
    record {
      shown = λ d. shown_now at q now c.loop-row.row-iterator c.next.new.self c.in-Some.row c.loop-row.held.items c.in-Some.ensures.steps
          c.in_ok-follow_row.ensures d (held_of d at (rows_listed c.args.rows)) c.hold_row.new.held.items (below at now) refl holds
          (c.loop-row.invariant.shown d);
      complete = λ d complete. complete_now at q now c.loop-row.row-iterator c.next.new.self c.in-Some.row c.loop-row.held.items
          c.in-Some.ensures.steps c.in_ok-follow_row.ensures d c.hold_row.new.held.items (below at now) holds (c.loop-row.invariant.complete d complete);
    }

pub returns-clause-complete : goal.returns-clause-complete
returns-clause-complete c d complete = (c.loop-row.invariant.complete d complete).0
