use Rattle.lfs_meta.specs.Attribute.{Attributes}
use Rattle.lfs_fs.specs.Reading.{reading_of}
use Rattle.lfs_fs.specs.Reread.{AreKnown, IsStarted}
use Rattle.lfs_fs.specs.Used.{unmarked}
use Rattle.lfs_fs.proofs.RereadLemmas.{GathersFrom}
use Rattle.lfs_fs.proofs.rereading.reread_thread.Given as goal

abbrev pub invariant-thread : goal.invariant-thread
invariant-thread g l = record {
  known : (attributes : Attributes) × AreKnown (reading_of (g.B.Blocks.disk l.blocks)) l.limits attributes l.known.changed.items l.known.parts.items;
  started : IsStarted (reading_of (g.B.Blocks.disk l.blocks)) l.limits l.fn.started.attributes.items l.fn.used l.fn.started.joined
      l.fn.started.next;
  so_far : GathersFrom (reading_of (g.B.Blocks.disk l.blocks)) l.limits l.fn.started.attributes.items l.fn.used l.fn.started.joined
      l.fn.started.next started l.next l.used l.joined;
}

abbrev pub decreases-thread : goal.decreases-thread
decreases-thread g l = unmarked l.used
