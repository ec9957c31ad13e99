-- The changes lay the file, and the blocks that they don't name stay.
use Rattle.std.proofs.Common.{ap, map, sym, ◌∙◌, subst}
use Rattle.lfs_block.specs.Disk.{Disk, block_of}
use Rattle.lfs_block.specs.PatchLaws.{IsDiskAs}
use Rattle.lfs_fs.specs.DiskBut.{IsDiskBut}
use Rattle.lfs_pack.proofs.ChangesMade.{contents_but, contents_laid}
use Rattle.lfs_pack.proofs.contents.lay_contents.Goals as goal

pub returns-clause-laid : goal.returns-clause-laid
returns-clause-laid c =
    let d = c.args.image.now.disk in
    ap (λ (e : Disk). map (block_of e) c.args.blocks.now) c.make_changes.ensures.made
    ∙ contents_laid c.changes_change_their_blocks.ensures.blocks d c.args.bytes.now c.args.blocks.now c.in_ok-changes.changes.items
    c.size-size.ensures.disk c.in_ok-changes.ensures

pub returns-clause-others : goal.returns-clause-others
returns-clause-others c =
    let d = c.args.image.now.disk in
    let made = c.make_changes.ensures.made in
    subst (λ (e : Disk). IsDiskBut c.args.blocks.now d e) (sym made)
    (contents_but c.changes_change_their_blocks.ensures.blocks d c.args.bytes.now c.args.blocks.now c.in_ok-changes.changes.items
    c.size-size.ensures.disk c.in_ok-changes.ensures (subst (IsDiskAs d) made c.make_changes.ensures.disk))
