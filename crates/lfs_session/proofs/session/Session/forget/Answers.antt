-- No change is left, and the image stays.
use Rattle.std.proofs.Common.{List, ap, ◌∙◌}
use Rattle.lfs_block.specs.Patch.{ChangeSet}
use Rattle.lfs_history.specs.History.{History, fresh_history, history_at}
use Rattle.lfs_session.proofs.session.Session.forget.Goals as goal

pub returns : goal.returns
returns c =
    ap (λ (changes : List ChangeSet). history_at c.self.inside.image.disk changes 0) c.clear.ensures.items
    ∙ ap (λ (h : History). fresh_history h.present) c.self.view_is
