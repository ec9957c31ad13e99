use Rattle.std.proofs.Common.{◌≡◌, take, Some}
use Rattle.std.specs.Prelude.{All}
use Rattle.lfs_meta.specs.Fits.{EntryFits}
use Rattle.lfs_meta.specs.Complete.{all_complete}
use Rattle.lfs_meta.proofs.complete.all_complete.Given as goal

abbrev pub invariant-loop-draft : goal.invariant-loop-draft
invariant-loop-draft l = record {
  found : all_complete (take l.draft-index l.drafts) ≡ Some l.entries.items;
  fit : All EntryFits l.entries.items;
}
