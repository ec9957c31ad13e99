-- What the code keeps of a commit's tags, seen by what it reads (own).
use Rattle.std.specs.Prelude.{◌≡◌, ℕ, Bool, List, [], ◌++◌, Option, Some, None, option_map}
use Rattle.std.specs.List.{filter}
use Rattle.lfs_tag.specs.declared.edit.Edit.{Edit}
use Rattle.lfs_tag.specs.Commit.{Item, next_word}
use Rattle.lfs_tag.specs.declared.reading.Committed.{Committed}
use Rattle.lfs_tag.specs.Found.{commit_found, commit_seen}
use Rattle.lfs_tag.specs.Reading.{CommitFront}
use Rattle.lfs_tag.specs.Writing.{items}
use Rattle.lfs_lower.specs.Spelled.{is_said, tags_lowered}

-- what is items_kept of tags
abbrev pub items_kept : Bool → List Item → List Item
items_kept in_root ts = tags_lowered in_root (filter is_said ts)

-- a commit: what is items_kept of its tags behind others, the word behind it, and the bytes behind it
abbrev pub commit_kept : Bool → List Item → CommitFront → List Item × ℕ × List ℕ
commit_kept in_root before r = (before ++ items_kept in_root r.commit.tags, next_word r.commit, r.rest)

-- the same of a commit that was found, with these tags items_kept of it
abbrev pub found_kept : List Item → Committed → List Item × ℕ × List ℕ
found_kept ts c = (ts, c.next, c.rest.now)

-- the list has more edits, which write these tags
pub record IsPushed (old : List Edit) (tags : List Item) (new : List Edit) : Type 0 where
  pub more : List Edit
  pub is : new ≡ old ++ more
  pub written : items more ≡ tags

-- the list has more edits, and where a commit was found they write what is items_kept of it
pub record IsCommitPushed (in_root : Bool) (old : List Edit) (there : Option CommitFront) (found : Option Committed) (new : List Edit) : Type 0 where
  pub more : List Edit
  pub is : new ≡ old ++ more
  pub seen : option_map (found_kept (items more)) found ≡ option_map (commit_kept in_root []) there

-- what is items_kept of a commit behind other tags: where there is none, those alone
abbrev pub kept_behind : Bool → List Item → Option CommitFront → List Item
kept_behind in_root before None = before
kept_behind in_root before (Some r) = before ++ items_kept in_root r.commit.tags

-- the commit was found, and the list has what is items_kept of it too
pub record IsCommitRead (in_root : Bool) (old : List Edit) (there : Option CommitFront) (found : Option Committed) (new : List Edit) : Type 0 where
  pub seen : option_map commit_found found ≡ option_map commit_seen there
  pub written : items new ≡ kept_behind in_root (items old) there
