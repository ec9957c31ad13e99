use Rattle.std.proofs.Common.{bit_xor, ℕ, ap}
use Rattle.lfs_tag.proofs.tag.Tag.encode.Goals as goal

pub returns : goal.returns
returns c = ap (λ (w : ℕ). bit_xor w c.args.prev) c.word.ensures
