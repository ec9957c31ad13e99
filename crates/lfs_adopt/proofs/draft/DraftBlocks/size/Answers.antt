-- As large as the image's; and with new blocks it is an image too.
use Rattle.std.proofs.Common.{ap, sym, ◌∙◌, subst}
use Rattle.lfs_adopt.specs.Draft.{Drafted, IsDraft}
use Rattle.lfs_adopt.proofs.Drafts.{drafted_disk, drafted_size}
use Rattle.lfs_adopt.proofs.draft.DraftBlocks.size.Goals as goal

pub returns-clause-value : goal.returns-clause-value
returns-clause-value c = c.size.ensures.value ∙ ap (λ (f : Drafted). f.base.size) c.self.view_is ∙ sym (drafted_size c.args.self.now)

pub returns-clause-disk : goal.returns-clause-disk
returns-clause-disk c =
    let laws = c.put_blocks_stand.ensures in
    drafted_disk laws.block laws.others laws.disk c.args.self.now (subst IsDraft c.self.view_is c.self.invariant)
