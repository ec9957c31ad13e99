-- The change is put where its block's number belongs.
use Rattle.std.proofs.Common.{ap, sym, ◌∙◌, subst}
use Rattle.lfs_block.specs.Change.{Change}
use Rattle.lfs_law.specs.PairWritten.{AddsChange}
use Rattle.lfs_command.specs.PartWritten.{change_at, with_change}
use Rattle.lfs_write.proofs.PairWrites.{change_added, change_can}
use Rattle.lfs_write.proofs.link_writing.add_change.Goals as goal

pub returns : goal.returns
returns g c =
    let d = g.B.Blocks.disk c.args.image.now in
    let old = c.args.changes.now.items in
    let n = c.args.number in
    let new = c.args.new.items in
    subst (AddsChange d (change_at d n new) old) (sym (c.in_ok-add.ensures
    ∙ ap (λ (x : Change). with_change x old) c.in_ok-change.ensures.change))
    (change_added d (change_at d n new) old c.requires.rising c.requires.made
    (change_can d n new c.size-size.ensures.disk c.requires.within c.requires.len c.change_of.ensures.bytes) c.requires.free)
