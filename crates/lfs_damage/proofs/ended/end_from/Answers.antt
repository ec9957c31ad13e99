use Rattle.std.proofs.Common.{sym, ◌∙◌}
use Rattle.lfs_tag.specs.Found.{commit_found}
use Rattle.lfs_damage.proofs.EndLoops.{end_here, end_more, end_shorter}
use Rattle.lfs_damage.proofs.ended.end_from.Goals as goal

pub loop-commit-smaller : goal.loop-commit-smaller
loop-commit-smaller c =
    end_shorter c.loop-commit.sum c.loop-commit.prev c.loop-commit.rest.now (commit_found c.in-Some.commit) c.in-Some.ensures

pub loop-commit-preserved : goal.loop-commit-preserved
loop-commit-preserved c =
    end_more c.loop-commit.has_commits c.loop-commit.sum c.loop-commit.prev c.loop-commit.rest.now (commit_found c.in-Some.commit)
    c.in-Some.ensures
    ∙ c.loop-commit.invariant

pub returns : goal.returns
returns c =
    sym (end_here c.loop-commit.has_commits c.loop-commit.sum c.loop-commit.prev c.loop-commit.rest.now c.in_default.ensures)
    ∙ c.loop-commit.invariant
