use Rattle.std.proofs.Common.{List, ℕ, subst, sym}
use Rattle.lfs_fs.specs.declared.outline_body.OutlineBody.{OutlineBody}
use Rattle.lfs_fs.specs.MarksMore.{MarksMore}
use Rattle.lfs_fs.specs.OutlineHeld.{outline_body_held}
use Rattle.lfs_fs.specs.Uses.{body_uses, times}
use Rattle.lfs_fs.proofs.marking.mark_body.Goals as goal

pub returns-in-Chain : goal.returns-in-Chain
returns-in-Chain c =
    subst (λ (body : OutlineBody). MarksMore c.args.used.now c.mark_each.new.used (λ b. body_uses b (outline_body_held body)))
    (sym c.in-Chain.is)
    (subst (λ (blocks : List ℕ). MarksMore c.args.used.now c.mark_each.new.used (λ b. times b blocks)) c.deref.ensures.value
    c.mark_each.ensures)
