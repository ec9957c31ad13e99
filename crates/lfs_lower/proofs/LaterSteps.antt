-- The commits that a later version reads, one more and none.
use Rattle.std.proofs.Common.{◌≡◌, ℕ, List, [], ◌∷◌, Some, None, ap}
use Rattle.lfs_tag.specs.Commit.{next_word}
use Rattle.lfs_tag.specs.Reading.{CommitFront, Front}
use Rattle.lfs_tag.proofs.Steps.{log_by-none, log_by-more}
use Rattle.lfs_lower.specs.Commits.{closes, later_at, commits_from}

pub commits_from-none : (sum prev : ℕ) (bytes : List ℕ) → later_at sum prev bytes ≡ None → commits_from sum prev bytes ≡ []
commits_from-none sum prev bytes e = ap (λ (f : Front). f.commits) (log_by-none closes sum prev bytes e)

pub commits_from-more : (sum prev : ℕ) (bytes : List ℕ) (r : CommitFront) → later_at sum prev bytes ≡ Some r
    → commits_from sum prev bytes ≡ r.commit ∷ commits_from 0xffffffff (next_word r.commit) r.rest
commits_from-more sum prev bytes r e = ap (λ (f : Front). f.commits) (log_by-more closes sum prev bytes r e)
