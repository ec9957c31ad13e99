-- Commits as later disk versions read them: since version 2.1 a checksum's tag may stand before the one that closes a commit, with a
-- checksum of what is erased behind it (littlefs disk version 2.1). It counts into the checksum like any other tag; all else is as in
-- version 2.0.
use Rattle.std.specs.Prelude.{ℕ, ◌&&◌, nat_lt, Bool, List, Option}
use Rattle.lfs_tag.specs.Tag.{chunk_of}
use Rattle.lfs_tag.specs.Commit.{Commit}
use Rattle.lfs_tag.specs.Reading.{CommitFront, commit_by, is_checksum, log_by}

-- the tag closes its commit: it is of one of the types 0x500 to 0x57f
abbrev pub closes : ℕ → Bool
closes word = is_checksum word && nat_lt (chunk_of word) 0x80

-- the commit at the front of bytes, behind the word `prev`, where `sum` is the checksum of what it covers so far
abbrev pub later_at : ℕ → ℕ → List ℕ → Option CommitFront
later_at sum prev bytes = commit_by closes sum prev bytes

-- the commits at the front of bytes, behind the word `prev`, where `sum` is the checksum of what the first covers before them
abbrev pub commits_from : ℕ → ℕ → List ℕ → List Commit
commits_from sum prev bytes = (log_by closes sum prev bytes).commits
