-- The part's mark says whether the link is written.
use Rattle.std.proofs.Common.{ap, sym, ◌∙◌}
use Rattle.lfs_pair.specs.DifferenceSeen.{forced_seen}
use Rattle.lfs_fs.specs.Directory.{Part}
use Rattle.lfs_law.specs.PairWritten.{link_to}
use Rattle.lfs_law.specs.PlansHold.{is_unmarked}
use Rattle.lfs_law.specs.SuperblockBytes.{volume_bytes}
use Rattle.lfs_write.proofs.LinksInTurn.{one_changed, one_may, one_fresh, one_free, one_written}
use Rattle.lfs_write.proofs.link_writing.write_link.Goals as goal

pub write_part-requires-clause-may : goal.write_part-requires-clause-may
write_part-requires-clause-may g c =
    one_may (g.B.Blocks.disk c.args.image.now) (volume_bytes c.args.outline.now) c.args.outline.now.attributes
    (is_unmarked c.args.used.now) c.args.changes.now.items (link_to c.args.part.now c.args.tail) c.requires.can
    (sym (ap (λ (p : Part). p.dirty) c.part.view_is) ∙ c.if-part.true)

pub write_part-requires-clause-fresh : goal.write_part-requires-clause-fresh
write_part-requires-clause-fresh g c =
    one_fresh (g.B.Blocks.disk c.args.image.now) (volume_bytes c.args.outline.now) c.args.outline.now.attributes
    (is_unmarked c.args.used.now) c.args.changes.now.items
    (link_to c.args.part.now c.args.tail) c.requires.can
    (sym (ap (λ (p : Part). p.dirty) c.part.view_is) ∙ c.if-part.true)

pub write_part-requires-clause-free : goal.write_part-requires-clause-free
write_part-requires-clause-free g c =
    one_free (g.B.Blocks.disk c.args.image.now) (volume_bytes c.args.outline.now) c.args.outline.now.attributes
    (is_unmarked c.args.used.now) c.args.changes.now.items
    (link_to c.args.part.now c.args.tail) c.requires.can
    (sym (ap (λ (p : Part). p.dirty) c.part.view_is) ∙ c.if-part.true)

pub returns-in_ok-write_part-clause-written : goal.returns-in_ok-write_part-clause-written
returns-in_ok-write_part-clause-written g c =
    one_written (g.B.Blocks.disk c.args.image.now) (volume_bytes c.args.outline.now) c.args.outline.now.attributes
    (is_unmarked c.args.used.now) c.args.changes.now.items c.write_part.new.changes.items
    (link_to c.args.part.now c.args.tail) c.requires.can
    (sym (ap (λ (p : Part). p.dirty) c.part.view_is) ∙ c.if-part.true)
    c.in_ok-write_part.ensures.adds

pub returns-in_ok-write_part-clause-changed : goal.returns-in_ok-write_part-clause-changed
returns-in_ok-write_part-clause-changed g c =
    one_changed (g.B.Blocks.disk c.args.image.now) (volume_bytes c.args.outline.now) c.args.outline.now.attributes (is_unmarked c.args.used.now)
    (forced_seen c.args.forced) c.write_part.new.changes.items (link_to c.args.part.now c.args.tail)
    (λ set known. c.in_ok-write_part.ensures.changed known)
