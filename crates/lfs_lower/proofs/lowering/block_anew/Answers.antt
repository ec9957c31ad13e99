-- A part that is read is written.
use Rattle.std.proofs.Common.{◌≡◌, ◌∙◌, List, ℕ, Some, ap, subst}
use Rattle.std.specs.Prelude.{IfSome}
use Rattle.lfs_block.specs.Disk.{Disk}
use Rattle.lfs_meta.specs.Body.{Pair}
use Rattle.lfs_fs.specs.Gathering.{PairPart}
use Rattle.lfs_pair.specs.Writing.{IsPartBlock}
use Rattle.lfs_lower.specs.LaterReading.{later_part_of}
use Rattle.lfs_lower.specs.Lowered.{IsReadFor}
use Rattle.lfs_lower.proofs.LoweredPairs.{anew_for}
use Rattle.lfs_lower.proofs.lowering.block_anew.Goals as goal

pub returns : goal.returns
returns g c =
    let d : Disk = (g.B.Blocks.disk c.args.image.now) in
    let p : PairPart = c.in-Some.part in
    let block : List ℕ = c.in_ok-block.block.items in
    let pair : p.0 ≡ c.args.pair = subst (λ o. IfSome o (λ (q : PairPart). q.0 ≡ c.args.pair)) c.in-Some.is c.in_ok-part.ensures.pair in
    let read : later_part_of d c.args.pair ≡ Some p.1 =
    subst (λ o. IfSome o (λ (q : PairPart). later_part_of d c.args.pair ≡ Some q.1)) c.in-Some.is c.in_ok-part.ensures.found in
    subst (λ (q : Pair). IsReadFor d q block) pair
    (anew_for d p c.args.number block (ap (later_part_of d) pair ∙ read)
    (subst (λ (n : ℕ). IsPartBlock n c.args.number p.1 block) c.size-2.ensures.value c.in_ok-block.ensures))
