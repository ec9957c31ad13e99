use Rattle.std.proofs.Common.{◌≡◌, ◌++◌, take, flat_map}
use Rattle.lfs_listing.specs.Listing.{shown_byte}
use Rattle.lfs_listing.proofs.escaping.append_all_shown.Given as goal

abbrev pub invariant-loop-byte : goal.invariant-loop-byte
invariant-loop-byte l = l.text.items ≡ l.initial.text.items ++ flat_map shown_byte (take l.byte-index l.bytes)
