-- The links that are left can fill their pairs, and whatever fills these fills all.
use Rattle.std.proofs.Common.{drop}
use Rattle.lfs_block.specs.Disk.{Disk, IsDisk}
use Rattle.lfs_fs.specs.Thread.{links}
use Rattle.lfs_law.specs.SuperblockBytes.{volume_bytes}
use Rattle.lfs_fs.specs.DiskBut.{IsDiskBut}
use Rattle.lfs_pack.specs.Filled.{CanFillPairs, TakesOutline, FillPairs, first_blocks}
use Rattle.lfs_pack.proofs.outline_writing.write_outline.Given as goal

abbrev pub invariant-loop-link : goal.invariant-loop-link
invariant-loop-link l = record {
  disk : IsDisk l.image.disk;
  can : CanFillPairs l.image.disk (volume_bytes l.outline) l.outline.attributes (drop l.link-index l.link-items);
  complete : (e : Disk) → FillPairs l.image.disk e (volume_bytes l.outline) l.outline.attributes (drop l.link-index l.link-items)
      → TakesOutline l.initial.image.disk e l.outline;
  but : (e : Disk) → IsDiskBut (first_blocks (drop l.link-index l.link-items)) l.image.disk e
      → IsDiskBut (first_blocks (links l.outline.directories)) l.initial.image.disk e;
}
