use Rattle.std.proofs.Common.{◌≡◌, None, replicate}
use Rattle.lfs_listing.proofs.block_numbers.no_numbers.Given as goal

abbrev pub invariant-loop : goal.invariant-loop
invariant-loop l = l.numbers.items ≡ replicate l.counter None
