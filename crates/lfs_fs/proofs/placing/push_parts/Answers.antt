use Rattle.std.proofs.Common.{◌-◌, arith}
use Rattle.lfs_fs.specs.Directory.{parts}
use Rattle.lfs_fs.proofs.PlacedLemmas.{parts_pushed}
use Rattle.lfs_fs.proofs.placing.push_parts.Goals as goal

pub loop-part-preserved : goal.loop-part-preserved
loop-part-preserved c =
    let d = c.args.directory.now in (
      omega (arith, c.loop-part.invariant.0, c.loop-part-test.true),
      parts_pushed c.args.depth c.args.index (c.loop-part.part - 1) c.loop-part.part c.in_ok-len.len
          (parts d) c.loop-part.waiting c.push_part.new.self c.args.waiting.now
          (omega (arith, c.loop-part-test.true)) c.loop-part.invariant.0 c.in_ok-len.ensures c.loop-part.invariant.1
          c.in_ok-push_part.ensures.pushed,
    )
