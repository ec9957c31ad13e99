-- A directory goes on to the next one.
use Rattle.std.proofs.Common.{◌+◌, ◌∷◌, drop, ap, ◌∙◌}
use Rattle.lfs_fs.specs.declared.outline_directory.OutlineParts.{OutlineParts}
use Rattle.lfs_fs.specs.Directory.{Directory}
use Rattle.lfs_fs.specs.Thread.{links, links_of, soft_to}
use Rattle.lfs_write.proofs.LinksOfOutlines.{directory_next, moved}
use Rattle.lfs_write.proofs.linking.outline_links.Goals as goal

pub each-preserved : goal.each-preserved
each-preserved c =
    let more = c.in-Some.more.now in
    let f = c.next-item.result in
    moved c.each.all.items (links_of c.each.directory.now.first c.each.directory.now.more c.soft_to-to_next.result)
    (links (f ∷ drop (c.each.next-index + 1) more)) _ _ _ c.in_ok-push_links.ensures
    (directory_next c.each.directory.now more c.each.next-index f c.soft_to-to_next.result c.each-test.true c.next-item.is
    (c.soft_to-to_next.ensures ∙ ap (λ (ps : OutlineParts). soft_to ps.first.pair) c.deref-in-each.ensures ∙ ap (λ (e : Directory). soft_to e.first.pair) c.next.view_is))
    c.each.invariant
