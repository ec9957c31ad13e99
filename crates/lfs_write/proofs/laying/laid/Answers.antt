-- The changes lay the file.
use Rattle.std.proofs.Common.{rules, ℕ, ap, map, subst, sym, ◌≡◌, ◌∙◌, Vec, Global}
use Rattle.lfs_file.specs.Laying.{laid}
use Rattle.lfs_write.specs.Laid.{AreLaid}
use Rattle.lfs_command.specs.PartWritten.{changes_at}
use Rattle.lfs_block.specs.Bytes.{IsBytes}
use Rattle.lfs_write.proofs.LaidLemmas.{are_laid}
use Rattle.lfs_write.proofs.laying.laid.Goals as goal

pub returns : goal.returns
returns g c =
    let d = g.B.Blocks.disk c.args.image.now in
    let bytes = c.args.bytes.now in
    let laws = c.laid_blocks_are_complete.ensures in
    let is : IsBytes bytes = search rules in
    let disk = c.size-size.ensures.disk in
    let all = are_laid d bytes c.args.blocks.now laws.many laws.complete laws.bytes disk disk.geometry.size_fits is c.requires.rising
    c.requires.below c.requires.many in
    let contents : map (λ (x : Vec ℕ Global). x.items) c.in_ok-contents.contents.items ≡ laid d.size bytes c.args.blocks.now =
    search rules in
    subst (AreLaid d bytes c.args.blocks.now) (sym (c.in_ok-changes.ensures ∙ ap (changes_at d c.args.blocks.now) contents)) all
