use Rattle.std.proofs.Common.{◌≡◌, map, drop}
use Rattle.std.specs.List.{range_with_len}
use Rattle.lfs_file.specs.Capacity.{bytes_of_blocks}
use Rattle.lfs_file.specs.Laying.{filled, share_of}
use Rattle.lfs_file.proofs.laying.lay.Given as goal

-- the blocks so far, and the bytes that are left
abbrev pub invariant-loop-n : goal.invariant-loop-n
invariant-loop-n l = record {
  done : map (λ block. block.items) l.all.items ≡ map (λ n. filled l.block_size (share_of l.block_size l.bytes n) l.blocks n)
      (range_with_len 0 l.n);
  rest : l.rest ≡ drop (bytes_of_blocks l.block_size l.n) l.bytes;
}
