use Rattle.std.proofs.Common.{sym, ◌∙◌}
use Rattle.lfs_lower.specs.Seen.{later_commit_found}
use Rattle.lfs_lower.proofs.SeenLoops.{commit_more, commit_shorter, no_commit}
use Rattle.lfs_lower.proofs.seen_block.stated_from.Goals as goal

pub loop-commit-smaller : goal.loop-commit-smaller
loop-commit-smaller c =
    commit_shorter c.loop-commit.told c.loop-commit.sum c.loop-commit.prev c.loop-commit.rest.now (later_commit_found c.in-Some.commit) c.in-Some.ensures

pub loop-commit-preserved : goal.loop-commit-preserved
loop-commit-preserved c =
    commit_more c.loop-commit.is_there c.loop-commit.told c.loop-commit.sum c.loop-commit.prev c.loop-commit.rest.now
    (later_commit_found c.in-Some.commit) c.in-Some.ensures
    ∙ c.loop-commit.invariant

pub returns : goal.returns
returns c =
    sym (no_commit c.loop-commit.is_there c.loop-commit.told c.loop-commit.sum c.loop-commit.prev c.loop-commit.rest.now c.in_default.ensures)
    ∙ c.loop-commit.invariant
