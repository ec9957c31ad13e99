-- The links that are left can be written, and whatever writes them writes all.
use Rattle.std.proofs.Common.{List, drop}
use Rattle.lfs_block.specs.Change.{Change}
use Rattle.lfs_pair.specs.DifferenceSeen.{forced_seen}
use Rattle.lfs_fs.specs.Thread.{links}
use Rattle.lfs_law.specs.PairWritten.{CanBeAdded}
use Rattle.lfs_law.specs.PlansHold.{is_unmarked}
use Rattle.lfs_law.specs.SuperblockBytes.{volume_bytes}
use Rattle.lfs_law.specs.WrittenLinks.{AreWritten, ChangesLinks}
use Rattle.lfs_write.proofs.link_writing.write_links.Given as goal

abbrev pub invariant-loop-link : goal.invariant-loop-link
invariant-loop-link g l = record {
  can : CanBeAdded (g.B.Blocks.disk l.image) (volume_bytes l.outline) l.outline.attributes (is_unmarked l.used) l.changes.items (drop l.link-index l.link-items);
  complete : (new : List Change)
      → AreWritten (g.B.Blocks.disk l.image) (volume_bytes l.outline) l.outline.attributes (is_unmarked l.used) l.changes.items (drop l.link-index l.link-items) new
      → AreWritten (g.B.Blocks.disk l.image) (volume_bytes l.outline) l.outline.attributes (is_unmarked l.used) l.fn.base.items
      (links l.outline.directories) new;
  changed : (new : List Change)
      → AreWritten (g.B.Blocks.disk l.image) (volume_bytes l.outline) l.outline.attributes (is_unmarked l.used) l.changes.items (drop l.link-index l.link-items) new
      → ChangesLinks (g.B.Blocks.disk l.image) (is_unmarked l.used) (forced_seen l.fn.forced) (drop l.link-index l.link-items) new
      → ChangesLinks (g.B.Blocks.disk l.image) (is_unmarked l.used) (forced_seen l.fn.forced) (links l.outline.directories) new;
}
