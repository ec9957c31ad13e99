-- The log of a block: its longest front of valid commits (SPEC.md, "Metadata pairs").
use Rattle.std.specs.Prelude.{◌≡◌, ℕ, List, [], ◌∷◌, ◌++◌, length, flat_map, All}
use Rattle.std.specs.List.{AllByRecursion}
use Rattle.lfs_tag.specs.Commit.{Item, Commit, IsCommit, commit_bytes, next_word}

-- commits one after another, the first of them behind `lead` and the word `prev`
unfoldable pub commits_bytes : List ℕ → ℕ → List Commit → List ℕ
commits_bytes lead prev [] = []
commits_bytes lead prev (c ∷ cs) = commit_bytes lead prev c ++ commits_bytes [] (next_word c) cs

-- the word that the next tag behind commits is XORed with
unfoldable pub final_word : ℕ → List Commit → ℕ
final_word prev [] = prev
final_word prev (c ∷ cs) = final_word (next_word c) cs

-- what the next commit's checksum covers beside itself
abbrev pub next_lead : List ℕ → List Commit → List ℕ
next_lead lead [] = lead
next_lead lead (c ∷ cs) = []

-- A block is its revision, its log's commits and a rest, at whose front no further commit stands.
pub record IsLog (block : List ℕ) (commits : List Commit) (rest : List ℕ) : Type 0 where
  pub revision : List ℕ
  pub revision_len : length revision ≡ 4
  pub each : AllByRecursion IsCommit commits
  pub parts : block ≡ revision ++ commits_bytes revision 0xffffffff commits ++ rest
  pub longest : (c : Commit) (more : List ℕ) → IsCommit c
      → rest ≡ commit_bytes (next_lead revision commits) (final_word 0xffffffff commits) c ++ more → ⊥

-- the tags of a log, in order, without those of checksums
abbrev pub log_tags : List Commit → List Item
log_tags commits = flat_map (λ c. c.tags) commits

-- each byte is 0xff, as flash leaves it where nothing is written
abbrev pub IsErased : List ℕ → Type 0
IsErased bytes = All (λ b. b ≡ 255) bytes
