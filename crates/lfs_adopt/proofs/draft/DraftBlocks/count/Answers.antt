-- As many as the image has.
use Rattle.std.proofs.Common.{ap, sym, ◌∙◌}
use Rattle.lfs_adopt.specs.Draft.{Drafted}
use Rattle.lfs_adopt.proofs.Drafts.{drafted_count}
use Rattle.lfs_adopt.proofs.draft.DraftBlocks.count.Goals as goal

pub returns : goal.returns
returns c = c.count.ensures ∙ ap (λ (f : Drafted). f.base.count) c.self.view_is ∙ sym (drafted_count c.args.self.now)
