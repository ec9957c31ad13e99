use Rattle.std.proofs.Common.{◌≡◌, ap, ◌∙◌, arith}
use Rattle.lfs_file.specs.Laying.{filled, share_of}
use Rattle.lfs_file.proofs.LayingLemmas.{value_kept, laid-more, laid-complete, part-next, rest-next}
use Rattle.lfs_file.proofs.laying.lay.Goals as goal

pub loop-n-preserved : goal.loop-n-preserved
loop-n-preserved c =
    let size = c.args.block_size in
    let n = c.loop-n.n in
    let bytes = c.args.bytes.now in
    let blocks = c.args.blocks.now in
    let part = part-next size n c.capacity_of-room.result c.min.result bytes c.loop-n.rest.now c.split_at.result.0.now
    c.loop-n.invariant.rest c.capacity_of-room.ensures c.min.ensures c.split_at.ensures.front in
    let block = value_kept (λ block. block.items ≡ filled size c.split_at.result.0.now blocks n) c.filled.result c.in_ok-ok.field-0
    c.in_ok-ok.ensures.value c.filled.ensures in
    record {
      done = laid-more (λ block. block.items) (λ k. filled size (share_of size bytes k) blocks k) n _ c.loop-n.all.items
          c.push.new.self.items c.in_ok-ok.field-0 c.loop-n.invariant.done c.in_ok-ok-2.ensures.variant c.push.ensures.items
          (block ∙ ap (λ xs. filled size xs blocks n) part);
      rest = rest-next size n c.capacity_of-room.result c.min.result bytes c.loop-n.rest.now c.split_at.result.1.now c.loop-n.invariant.rest
          c.capacity_of-room.ensures c.min.ensures c.split_at.ensures.back;
    }

pub returns : goal.returns
returns c = laid-complete c.args.block_size c.loop-n.n c.args.bytes.now c.args.blocks.now _ c.loop-n.invariant.done (omega arith)
