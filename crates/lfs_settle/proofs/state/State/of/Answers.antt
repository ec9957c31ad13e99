use Rattle.std.proofs.Common.{◌≡◌, take, drop, arith}
use Rattle.byteorder.specs.Endian.{little_number}
use Rattle.lfs_fs.proofs.StateLemmas.{by_words}
use Rattle.lfs_settle.proofs.state.State.of.Goals as goal

pub returns : goal.returns
returns c =
    let first : c.read_u32.result ≡ little_number 4 (take 4 c.args.bytes.now) = c.read_u32.ensures in
    let rest : c.read_u64.result ≡ little_number 8 (take 8 (drop 4 c.args.bytes.now)) = c.read_u64.ensures in
    omega (arith, first, rest, by_words c.args.bytes.now c.told-bytes)
