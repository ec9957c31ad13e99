-- A block of a disk has the disk's block size.
use Rattle.std.proofs.Common.{◌≡◌, ℕ, ◌+◌, ◌*◌, ◌<◌, ◌≤◌, length, drop, arith}
use Rattle.std.proofs.Math.Nat.{mul-le-mul_right}
use Rattle.std.proofs.lemmas.List.{length-take-le, length-drop}
use Rattle.lfs_block.specs.Disk.{Disk, IsDisk, block_of}

pub length-block : (d : Disk) (n : ℕ) → IsDisk d → n < d.count → length (block_of d n) ≡ d.size
length-block d n disk below =
    let rows : (n + 1) * d.size ≤ d.count * d.size = mul-le-mul_right d.size (omega arith) in
    let left : d.size ≤ length (drop (n * d.size) d.bytes) = omega (arith, length-drop (n * d.size) d.bytes, disk.len, rows) in
    length-take-le d.size (drop (n * d.size) d.bytes) left
