use Rattle.std.proofs.Common.{append-nil, arith, refl, sym}
use Rattle.lfs_listing.specs.Listing.{shown_byte}
use Rattle.lfs_listing.proofs.FlatLemmas.{flat_all, flat_more}
use Rattle.lfs_listing.proofs.escaping.append_all_shown.Goals as goal

pub loop-byte-init : goal.loop-byte-init
loop-byte-init c = sym (append-nil _)

pub loop-byte-preserved : goal.loop-byte-preserved
loop-byte-preserved c =
    flat_more shown_byte _ _ _ c.args.bytes.now c.loop-byte.byte-index 0 _ (omega arith) refl c.loop-byte.invariant c.in_ok-append_shown.ensures

pub returns : goal.returns
returns c = flat_all shown_byte _ _ c.args.bytes.now c.loop-byte.byte-index (omega arith) c.loop-byte.invariant
