use Rattle.std.proofs.Common.{sym, arith}
use Rattle.lfs_fs.proofs.StateLemmas.{mixed}
use Rattle.lfs_fs.proofs.delta.Delta.joined.Goals as goal

pub returns : goal.returns
returns c = rw (sym c.self.view_is, sym c.other.view_is) (sym (mixed c.self.inside.word c.self.inside.rest c.other.inside.word
    c.other.inside.rest (omega arith) (omega arith)))
