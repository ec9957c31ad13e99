use Rattle.std.proofs.Common.{arith}
use Rattle.lfs_fs.proofs.StateLemmas.{spelled_over}
use Rattle.lfs_fs.proofs.delta.bytes_of.Goals as goal

pub returns : goal.returns
returns c = spelled_over c.args.word c.args.rest c.write_u32.new.buf c.write_u64.new.buf _ _ c.write_u32.ensures c.write_u32.auto.buf
    c.write_u64.ensures c.write_u64.auto.buf (omega arith) (omega arith)
