-- What the readers give, seen by what they read (own).
use Rattle.std.specs.Prelude.{ℕ, Bool, List}
use Rattle.lfs_tag.specs.Found.{tag_found}
use Rattle.lfs_tag.specs.Reading.{TagFront}
use Rattle.lfs_damage.specs.declared.closing.Closing.{Closing}
use Rattle.lfs_damage.specs.declared.ended.Ended.{Ended}

-- the tag that closes a commit, and the right checksum
abbrev pub closing_found : Closing → ℕ × TagFront
closing_found c = (c.right, tag_found c.tag)

-- how far commits go
abbrev pub end_found : Ended → Bool × ℕ × ℕ × List ℕ
end_found e = (e.has_commits, e.sum, e.prev, e.rest.now)
