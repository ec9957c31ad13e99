-- One link more is written.
use Rattle.std.proofs.Common.{◌≡◌, ◌+◌, List, [], ◌∷◌, drop, sym, subst, arith}
use Rattle.std.proofs.Math.ListN.{drop_of_length-le}
use Rattle.lfs_pair.specs.DifferenceSeen.{forced_seen}
use Rattle.lfs_fs.specs.Thread.{Link}
use Rattle.lfs_law.specs.PairWritten.{link_to}
use Rattle.lfs_law.specs.PlansHold.{is_unmarked}
use Rattle.lfs_law.specs.SuperblockBytes.{volume_bytes}
use Rattle.lfs_law.specs.WrittenLinks.{AreWritten, ChangesLinks}
use Rattle.lfs_law.proofs.LinksAdded.{no_links_are_written}
use Rattle.lfs_write.proofs.LinksOfOutlines.{one_left}
use Rattle.lfs_write.proofs.LinksInTurn.{can_first, can_later, changed_complete, none_changed, written_complete}
use Rattle.lfs_write.proofs.link_writing.write_links.Goals as goal

pub write_link-requires-clause-can : goal.write_link-requires-clause-can
write_link-requires-clause-can g c =
    can_first (g.B.Blocks.disk c.args.image.now) (volume_bytes c.args.outline.now) c.args.outline.now.attributes (is_unmarked c.args.used.now)
    c.loop-link.changes.items (drop c.loop-link.link-index c.deref-link-items.result.now)
    (link_to c.link.inside.part.now c.link.inside.tail ∷ [])
    (drop (c.loop-link.link-index + 1) c.deref-link-items.result.now)
    (one_left c.deref-link-items.result.now c.loop-link.link-index c.link-item.result
    (link_to c.link.inside.part.now c.link.inside.tail) c.link.view_is c.loop-link-test.true c.link-item.is)
    c.loop-link.invariant.can

pub loop-link-preserved : goal.loop-link-preserved
loop-link-preserved g c =
    let d = g.B.Blocks.disk c.args.image.now in
    let bytes = volume_bytes c.args.outline.now in
    let attributes = c.args.outline.now.attributes in
    let is_new = is_unmarked c.args.used.now in
    let all = drop c.loop-link.link-index c.deref-link-items.result.now in
    let later = drop (c.loop-link.link-index + 1) c.deref-link-items.result.now in
    let split = one_left c.deref-link-items.result.now c.loop-link.link-index c.link-item.result
    (link_to c.link.inside.part.now c.link.inside.tail) c.link.view_is c.loop-link-test.true c.link-item.is in
    record {
      can = can_later d bytes attributes is_new c.loop-link.changes.items c.write_link.new.changes.items all _ later split
          c.loop-link.invariant.can c.in_ok-write_link.ensures.written;
      complete = λ new written. c.loop-link.invariant.complete new
          (written_complete d bytes attributes is_new c.loop-link.changes.items c.write_link.new.changes.items new all _ later split
          c.loop-link.invariant.can c.in_ok-write_link.ensures.written written);
      changed = λ new written changed. c.loop-link.invariant.changed new
          (written_complete d bytes attributes is_new c.loop-link.changes.items c.write_link.new.changes.items new all _ later split
          c.loop-link.invariant.can c.in_ok-write_link.ensures.written written)
          (changed_complete d bytes attributes is_new (forced_seen c.args.forced) c.loop-link.changes.items c.write_link.new.changes.items new all _
          later split c.loop-link.invariant.can c.in_ok-write_link.ensures.written written c.in_ok-write_link.ensures.changed changed);
    }

pub returns-clause-written : goal.returns-clause-written
returns-clause-written g c =
    let d = g.B.Blocks.disk c.args.image.now in
    let bytes = volume_bytes c.args.outline.now in
    let attributes = c.args.outline.now.attributes in
    let is_new = is_unmarked c.args.used.now in
    let cs = c.loop-link.changes.items in
    let all = c.deref-link-items.result.now in
    let can = c.loop-link.invariant.can in
    let none : drop c.loop-link.link-index all ≡ [] = drop_of_length-le all (omega (arith, c.loop-link-test.false)) in
    c.loop-link.invariant.complete cs (subst (λ (ls : List Link). AreWritten d bytes attributes is_new cs ls cs) (sym none)
    (no_links_are_written d bytes attributes is_new cs can.rising can.made))

pub returns-clause-changed : goal.returns-clause-changed
returns-clause-changed g c =
    let d = g.B.Blocks.disk c.args.image.now in
    let bytes = volume_bytes c.args.outline.now in
    let attributes = c.args.outline.now.attributes in
    let is_new = is_unmarked c.args.used.now in
    let forced = forced_seen c.args.forced in
    let cs = c.loop-link.changes.items in
    let all = c.deref-link-items.result.now in
    let can = c.loop-link.invariant.can in
    let none : drop c.loop-link.link-index all ≡ [] = drop_of_length-le all (omega (arith, c.loop-link-test.false)) in
    c.loop-link.invariant.changed cs (subst (λ (ls : List Link). AreWritten d bytes attributes is_new cs ls cs) (sym none)
    (no_links_are_written d bytes attributes is_new cs can.rising can.made)) (subst (λ (ls : List Link). ChangesLinks d is_new forced ls cs)
    (sym none) (none_changed d bytes attributes is_new forced cs))
