use Rattle.std.proofs.Common.{◌≡◌, ◌+◌, ◌-◌, ℕ, Option, ap, ap₂, sym, ◌∙◌, arith}
use Rattle.std.specs.Option.{option_or}
use Rattle.lfs_block.specs.Disk.{Disk, image_of}
use Rattle.lfs_lower.specs.Beginning.{last_along, lead, superblock_in, superblock_of}
use Rattle.lfs_lower.specs.declared.told.Superblock.{Superblock}
use Rattle.lfs_lower.proofs.BeginningLemmas.{along_more}
use Rattle.lfs_lower.proofs.beginning.superblock_of.Goals as goal

pub loop-pair-preserved : goal.loop-pair-preserved
loop-pair-preserved c =
    let d : Disk = image_of c.args.size c.args.bytes.now in
    let left = 16 - (c.loop-pair._pair + 1) in
    let last_is = c.or-last.ensures
    ∙ ap (λ (o : Option Superblock). option_or o c.loop-pair.last) (c.superblock_in.ensures ∙ ap superblock_in c.told_at-told.ensures) in
    ap₂ (last_along d left) last_is (c.lead-next.ensures ∙ ap lead c.told_at-told.ensures)
    ∙ sym (along_more d (16 - c.loop-pair._pair) left c.loop-pair.last c.loop-pair.next (omega arith))
    ∙ c.loop-pair.invariant

pub returns : goal.returns
unfolding superblock_of
returns c =
    let none_left : 16 - c.loop-pair._pair ≡ 0 = omega arith in
    sym (ap (λ (n : ℕ). last_along (image_of c.args.size c.args.bytes.now) n c.loop-pair.last c.loop-pair.next) none_left) ∙ c.loop-pair.invariant
