use Rattle.std.proofs.Common.{◌≡◌, ◌+◌, ◌++◌, false, length}
use Rattle.lfs_listing.specs.Comparing.{AreComplete}
use Rattle.lfs_listing.specs.Difference.{difference}
use Rattle.lfs_listing.proofs.BufferLemmas.{IsUnderWay}
use Rattle.lfs_listing.proofs.MergeLemmas.{IsTold}
use Rattle.lfs_listing.proofs.differing.send_merged.Given as goal

-- what differs so far has gone out or waits, and what differs between the rows that are left is to come
abbrev pub invariant-rows : goal.invariant-rows
invariant-rows g l = record {
  under_way : IsUnderWay (g.S.Sink.sent l.initial.out) (g.S.Sink.sent l.out) l.text.items
      (difference l.fn.form l.images.0 l.first l.images.1 l.second)
      (l.initial.text.items ++ difference l.fn.form l.images.0 l.initial.first l.images.1 l.initial.second);
  told : IsTold l.differs l.text.items (difference l.fn.form l.images.0 l.first l.images.1 l.second)
      (l.initial.text.items ++ difference l.fn.form l.images.0 l.initial.first l.images.1 l.initial.second);
  first : AreComplete l.images.0 l.first;
  second : AreComplete l.images.1 l.second;
  works : g.S.Sink.failed l.out ≡ false;
  kept : g.S.Sink.kept l.out ≡ g.S.Sink.kept l.initial.out;
}

abbrev pub decreases-rows : goal.decreases-rows
decreases-rows g l = length l.first + length l.second
