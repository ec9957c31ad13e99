-- What the code's readers give, seen by what they read (own).
use Rattle.std.specs.Prelude.{ℕ, List}
use Rattle.lfs_tag.specs.Commit.{next_word}
use Rattle.lfs_tag.specs.Reading.{CommitFront}
use Rattle.lfs_lower.specs.declared.seen_commit.Committed.{Committed}
use Rattle.lfs_lower.specs.declared.told.Told.{Told}
use Rattle.lfs_lower.specs.Told.{told_after}

-- what is kept of a commit, behind others of which this is told: the word behind it, what is told then, and the bytes behind it
abbrev pub later_commit_seen : Told → CommitFront → ℕ × Told × List ℕ
later_commit_seen so_far r = (next_word r.commit, told_after so_far r.commit.tags, r.rest)

-- a commit that was found
abbrev pub later_commit_found : Committed → ℕ × Told × List ℕ
later_commit_found c = (c.next, c.told, c.rest.now)
