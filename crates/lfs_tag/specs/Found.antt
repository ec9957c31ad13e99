-- What the readers give, seen by what they read (own).
use Rattle.std.specs.Prelude.{ℕ, List}
use Rattle.lfs_tag.specs.declared.reading.Found.{Found}
use Rattle.lfs_tag.specs.declared.reading.Committed.{Committed}
use Rattle.lfs_tag.specs.Commit.{next_word}
use Rattle.lfs_tag.specs.Tags.{item_with}
use Rattle.lfs_tag.specs.Reading.{TagFront, CommitFront}

-- a tag that was found
abbrev pub tag_found : Found → TagFront
tag_found f = record { stored = f.stored.now; item = item_with f.tag f.content.now; rest = f.rest.now }

-- what is kept of a commit: the word behind it, and the bytes behind it
abbrev pub commit_seen : CommitFront → ℕ × List ℕ
commit_seen r = (next_word r.commit, r.rest)

-- a commit that was found
abbrev pub commit_found : Committed → ℕ × List ℕ
commit_found c = (c.next, c.rest.now)
