-- Both blocks are written, one after the other, or the live one alone.
use Rattle.std.proofs.Common.{◌≡◌, ◌∙◌, false, List, ℕ, ap, arith, rules}
use Rattle.std.proofs.lemmas.Result.{on_ok_weaker}
use Rattle.lfs_block.specs.Disk.{Disk, block_of, erased_block, put}
use Rattle.lfs_lower.specs.Alone.{is_silent}
use Rattle.lfs_lower.proofs.AloneBlocks.{written_alone}
use Rattle.lfs_lower.proofs.alone.write_alone.Goals as goal

pub returns : goal.returns
returns g c =
    let d : Disk = (g.B.Blocks.disk c.args.image.now) in
    let e : Disk = (g.B.Blocks.disk c.rewrite-3.new.self) in
    let erased : List ℕ = c.deref.result.now in
    let is : erased ≡ erased_block d.size = search rules in
    let said : is_silent (block_of d c.args.beside) ≡ false = search rules in
    record {
      written =
          on_ok_weaker c.rewrite-3.result (λ new.
          written_alone c.put_blocks_stand.ensures.block c.put_blocks_stand.ensures.others c.put_blocks_stand.ensures.disk d e c.args.live
          c.args.beside c.args.block.now erased c.size-size.ensures.disk c.requires.apart c.requires.first c.requires.second c.requires.complete
          (λ i. omega (arith, c.type_inv.block i)) is said (new ∙ ap (put c.args.beside erased) c.in_ok-rewrite-2.ensures.put))
          c.rewrite-3.ensures.put;
    }
