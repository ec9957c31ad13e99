-- Without new blocks it is the image.
use Rattle.std.proofs.Common.{List, ℕ, ap, ◌∙◌}
use Rattle.std.specs.Prelude.{Option, None, replicate}
use Rattle.lfs_adopt.proofs.Drafts.{begins_same}
use Rattle.lfs_adopt.proofs.draft.Draft.of.Goals as goal

pub returns-clause-same : goal.returns-clause-same
returns-clause-same c =
    begins_same c.args.image.now.disk c.in_ok-blocks.blocks.items
    (c.in_ok-blocks.ensures ∙ ap (λ (n : ℕ). replicate {A = Option (List ℕ)} n None) c.count.ensures)
