use Rattle.std.proofs.Common.{arith}
use Rattle.lfs_listing.proofs.DigitLemmas.{digits_none, digits_more}
use Rattle.lfs_listing.proofs.digits.append_all_digits.Goals as goal

pub loop-byte-init : goal.loop-byte-init
loop-byte-init c = digits_none _

pub loop-byte-preserved : goal.loop-byte-preserved
loop-byte-preserved c = digits_more _ _ _ c.args.bytes.now c.loop-byte.byte-index (omega arith) c.loop-byte.invariant c.in_ok-append_digits.ensures
