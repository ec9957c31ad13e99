-- Blocks past the end of a disk.
use Rattle.std.proofs.Common.{◌≡◌, ℕ, ◌*◌, ◌≤◌, [], take, ap, ◌∙◌, arith}
use Rattle.std.proofs.Math.Nat.{mul-le-mul_right}
use Rattle.std.proofs.lemmas.List.{drop_all, take_all}
use Rattle.lfs_block.specs.Disk.{Disk, IsDisk, block_of}

pub past_the_end : (d : Disk) (b : ℕ) → IsDisk d → d.count ≤ b → block_of d b ≡ []
past_the_end d b disk past =
    let rows : d.count * d.size ≤ b * d.size = mul-le-mul_right d.size past in
    ap (take d.size) (drop_all (b * d.size) d.bytes (omega (arith, disk.len, rows))) ∙ take_all d.size [] (omega arith)
