use Rattle.std.proofs.Common.{◌≡◌, ◌++◌, take}
use Rattle.hex.specs.Hex.{encode_lower}
use Rattle.lfs_listing.proofs.digits.append_all_digits.Given as goal

abbrev pub invariant-loop-byte : goal.invariant-loop-byte
invariant-loop-byte l = l.text.items ≡ l.initial.text.items ++ encode_lower (take l.byte-index l.bytes)
