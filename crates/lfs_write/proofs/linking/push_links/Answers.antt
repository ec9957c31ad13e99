-- A part goes on to the next one.
use Rattle.std.proofs.Common.{◌+◌, drop, ap, ◌∙◌}
use Rattle.lfs_fs.specs.declared.outline_directory.OutlineParts.{OutlineParts}
use Rattle.lfs_fs.specs.Directory.{Directory}
use Rattle.lfs_fs.specs.Thread.{links_of}
use Rattle.lfs_law.specs.PairWritten.{link_to}
use Rattle.lfs_write.proofs.LinksOfOutlines.{last_added, one_moved, part_next}
use Rattle.lfs_write.proofs.linking.push_links.Goals as goal

pub each-preserved : goal.each-preserved
each-preserved c =
    let more = c.args.directory.now.more in
    let q = c.next-item.result in
    let held = c.deref-next-items.ensures.value ∙ ap (λ (ps : OutlineParts). ps.more.items) c.deref-2.ensures
    ∙ ap (λ (e : Directory). e.more) c.directory.view_is in
    one_moved c.each.links.items (link_to c.each.part.now c.hard_to-to_next.result) (links_of q (drop (c.each.next-index + 1) more) c.args.tail)
    _ _ _ c.in_ok-push.ensures.items
    (part_next c.each.part.now c.deref-next-items.result.now more c.each.next-index q c.args.tail c.hard_to-to_next.result
    held c.each-test.true c.next-item.is
    c.hard_to-to_next.ensures)
    c.each.invariant

pub returns : goal.returns
returns c =
    let held = c.deref-next-items.ensures.value ∙ ap (λ (ps : OutlineParts). ps.more.items) c.deref-2.ensures
    ∙ ap (λ (e : Directory). e.more) c.directory.view_is in
    last_added c.each.links.items c.each.part.now c.deref-next-items.result.now c.args.directory.now.more c.each.next-index c.args.tail _ _
    held c.each-test.false c.in_ok-push-2.ensures.items
    c.each.invariant
