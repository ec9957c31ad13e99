use Rattle.std.proofs.Common.{◌≡◌, ◌+◌, ◌++◌, length}
use Rattle.lfs_json.specs.declared.form.Form.TheVariants.{Text}
use Rattle.lfs_listing.specs.Comparing.{AreComplete}
use Rattle.lfs_listing.specs.Difference.{difference}
use Rattle.lfs_listing.proofs.differing.differ.Given as goal

-- what differs is the text and what differs between the rows that are left
abbrev pub invariant-rows : goal.invariant-rows
invariant-rows g l = record {
  all : l.text.items ++ difference Text l.images.0 l.first l.images.1 l.second
      ≡ l.initial.text.items ++ difference Text l.images.0 l.initial.first l.images.1 l.initial.second;
  first : AreComplete l.images.0 l.first;
  second : AreComplete l.images.1 l.second;
}

abbrev pub decreases-rows : goal.decreases-rows
decreases-rows g l = length l.first + length l.second
