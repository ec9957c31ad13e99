-- The image of both lowered blocks holds the part, and there is such an image.
use Rattle.std.proofs.Common.{◌≡◌, ◌∙◌, ℕ, Option, ap, sym, subst}
use Rattle.std.specs.Prelude.{IfNone, IfSome, None, Some}
use Rattle.lfs_block.specs.Disk.{Disk}
use Rattle.lfs_block.specs.ImageFault.{IsNoImage}
use Rattle.lfs_fs.specs.Gathering.{PairPart}
use Rattle.lfs_meta.specs.LiveBlock.{stored_part_of}
use Rattle.lfs_lower.proofs.LaterPart.{both_fit, both_read}
use Rattle.lfs_lower.proofs.later_part.later_part_at.Goals as goal

pub returns-in_default-clause-none : goal.returns-in_default-clause-none
returns-in_default-clause-none g c =
    let d : Disk = g.B.Blocks.disk c.args.blocks.now in
    absurd (both_fit c.lowered_blocks_are_read.ensures.blocks d c.args.pair c.size-size.ensures.disk c.requires.first c.requires.second
    c.in_default.field-0.0 c.in_ok-both.both.items c.in_ok-both.ensures
    (subst (λ (n : ℕ). IsNoImage c.in_default.field-0.0 n c.in_ok-both.both.items) c.size-size.ensures.value c.in_default.ensures.cause))

pub returns-in_default-2-clause-none : goal.returns-in_default-2-clause-none
returns-in_default-2-clause-none g c =
    let d : Disk = g.B.Blocks.disk c.args.blocks.now in
    let e : Disk = c.in-Ok.image.disk in
    sym (both_read c.lowered_blocks_are_read.ensures.blocks d c.args.pair c.size-size.ensures.disk c.requires.first c.requires.second
    c.lowered_blocks_are_read.ensures.lives e (c.in-Ok.ensures.size ∙ c.size-size.ensures.value) (c.in-Ok.ensures.bytes ∙ c.in_ok-both.ensures))
    ∙ subst (λ (o : Option PairPart). IfNone o (stored_part_of e (0, 1) ≡ None)) c.in_default-2.is c.in_ok-part.ensures.none

pub returns-clause-found : goal.returns-clause-found
returns-clause-found g c =
    let d : Disk = g.B.Blocks.disk c.args.blocks.now in
    let e : Disk = c.in-Ok.image.disk in
    sym (both_read c.lowered_blocks_are_read.ensures.blocks d c.args.pair c.size-size.ensures.disk c.requires.first c.requires.second
    c.lowered_blocks_are_read.ensures.lives e (c.in-Ok.ensures.size ∙ c.size-size.ensures.value) (c.in-Ok.ensures.bytes ∙ c.in_ok-both.ensures))
    ∙ subst (λ (o : Option PairPart). IfSome o (λ p. stored_part_of e (0, 1) ≡ Some p.1)) c.in-Some.is c.in_ok-part.ensures.found
    ∙ ap (λ (p : PairPart). Some p.1) (sym c.part.view_is)
