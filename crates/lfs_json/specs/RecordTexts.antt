-- What every line is (own).
use Rattle.std.specs.Prelude.{ℕ, ◌^◌, ◌<◌, Bool, List, Option}
use Rattle.std.specs.List.{AllByRecursion}
use Rattle.std.specs.Str.{IsUtf8}
use Rattle.lfs_fs.specs.Entry.{Entry, body_length}
use Rattle.lfs_fs.specs.Path.{Path}
use Rattle.lfs_fs.specs.Row.{Row}
use Rattle.lfs_fs.specs.declared.limits.Limits.{Limits}
use Rattle.lfs_json.specs.Texts.{HasTexts}
use Rattle.lfs_json.specs.Blocks.{json_of_run, json_of_sum}
use Rattle.lfs_json.specs.Rows.{json_of_change, json_of_contents, json_of_digested, json_of_row}
use Rattle.lfs_json.specs.Steps.{json_of_step}
use Rattle.lfs_json.specs.Summary.{json_of_limits, json_of_summary}
use Rattle.lfs_json.specs.declared.summary.Summary.{Summary}

-- its numbers are such that eight bytes hold
pub record HasNumbers (e : Entry) : Type 0 where
  pub size : body_length e.body < 2 ^ 64
  pub kinds : AllByRecursion (λ a. a.0 < 2 ^ 64) e.attributes

-- the law: the object of a row holds texts and whole numbers, so its spelling is one line of UTF-8
abbrev pub RowsHaveTexts : Type 0
RowsHaveTexts = (p : Path) (e : Entry) → HasNumbers e → HasTexts (json_of_row p e)

-- the law: so does that of one with a digest
abbrev pub DigestsHaveTexts : Type 0
DigestsHaveTexts = (p : Path) (e : Entry) (digest : List ℕ) → HasNumbers e → HasTexts (json_of_digested p e digest)

-- the law: so do those of rows that differ
abbrev pub ChangesHaveTexts : Type 0
ChangesHaveTexts = (change : List ℕ) (p : Path) (e : Entry) → IsUtf8 change → HasNumbers e
    → HasTexts (json_of_change change p e) × HasTexts (json_of_contents change p e)

-- the law: so do those of blocks
abbrev pub BlocksHaveTexts : Type 0
BlocksHaveTexts = (u : Option Row) (m n : ℕ) → m < 2 ^ 64 → n < 2 ^ 64 → HasTexts (json_of_sum u m) × HasTexts (json_of_run u m n)

-- the law: so do those of changes of a history
abbrev pub StepsHaveTexts : Type 0
StepsHaveTexts = (number : ℕ) (done : Bool) → number < 2 ^ 64 → HasTexts (json_of_step number done)

-- its numbers are such that four bytes hold, or eight
pub record HasCounts (s : Summary) : Type 0 where
  pub block : s.block < 2 ^ 32
  pub count : s.count < 2 ^ 32
  pub free : s.free < 2 ^ 32
  pub directories : s.directories < 2 ^ 64
  pub files : s.files < 2 ^ 64
  pub version : s.version < 2 ^ 32
  pub name : s.limits.name < 2 ^ 32
  pub file : s.limits.file < 2 ^ 32
  pub attribute : s.limits.attribute < 2 ^ 32
  pub inline : s.inline_longest < 2 ^ 64

-- the law: so does that of an image in numbers
abbrev pub SummariesHaveTexts : Type 0
SummariesHaveTexts = (s : Summary) → HasCounts s → HasTexts (json_of_summary s)

-- the law: so does that of limits
abbrev pub LimitsHaveTexts : Type 0
LimitsHaveTexts = (limits : Limits) → limits.name < 2 ^ 64 → limits.file < 2 ^ 64 → limits.attribute < 2 ^ 64 → HasTexts (json_of_limits limits)
