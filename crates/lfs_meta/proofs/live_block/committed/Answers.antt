-- A log counts where it has a commit.
use Rattle.std.proofs.Common.{None, Some, refl, ap, ◌∙◌, arith}
use Rattle.std.proofs.lemmas.Bool.{cond_above, cond_below}
use Rattle.lfs_tag.specs.LogSeen.{LogSeen, log_seen}
use Rattle.lfs_meta.proofs.live_block.committed.Goals as goal

pub returns-then-log-gt0 : goal.returns-then-log-gt0
returns-then-log-gt0 c =
    let seen = c.read-log.ensures.seen in
    ap (λ (log : LogSeen). Some log) seen
    ∙ cond_below 0 (log_seen c.args.block.now).commits (Some (log_seen c.args.block.now)) None
    (omega (arith, ap (λ (log : LogSeen). log.commits) (c.log.view_is ∙ seen), c.if-log-gt0.true))

pub returns-else-log-gt0 : goal.returns-else-log-gt0
returns-else-log-gt0 c =
    cond_above 0 (log_seen c.args.block.now).commits (Some (log_seen c.args.block.now)) None None
    (omega (arith, ap (λ (log : LogSeen). log.commits) (c.log.view_is ∙ c.read-log.ensures.seen), c.if-log-gt0.false)) refl
