-- A backslash, `x` and two digits stand for a byte.
use Rattle.lfs_texts.proofs.WordLemmas.{escape_taken}
use Rattle.lfs_texts.proofs.escapes.first_of.Goals as goal

pub returns-in_ok-byte-in-len3-up-clause-byte : goal.returns-in_ok-byte-in-len3-up-clause-byte
returns-in_ok-byte-in-len3-up-clause-byte c =
    escape_taken c.args.first c.in_ok-byte-in-len3-up.byte c.args.rest.now c.if-first-ne92.false c.in-len3-up.len_at_least
    c.if-mark-eq120.true c.in_ok-byte-in-len3-up.ensures.byte
