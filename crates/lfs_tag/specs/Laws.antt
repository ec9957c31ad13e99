-- Laws of logs (own).
use Rattle.std.specs.Prelude.{◌≡◌, ◌↔◌, true, ℕ, ◌+◌, ◌*◌, ◌≤◌, List, [], ◌∷◌, ◌++◌, length, drop}
use Rattle.std.specs.List.{AllByRecursion}
use Rattle.lfs_block.specs.Bytes.{IsBytes}
use Rattle.lfs_block.specs.Disk.{put_at}
use Rattle.lfs_tag.specs.Commit.{Item, Commit, IsItem, IsCommit, commit_bytes}
use Rattle.lfs_tag.specs.Log.{IsErased, IsLog, final_word, log_tags}
use Rattle.lfs_tag.specs.LogSeen.{is_erased}
use Rattle.lfs_tag.specs.Reading.{log_of}
use Rattle.lfs_tag.specs.Writing.{committed_end, commit_of, lead_at}

-- The log of a block is what is read of it.
abbrev pub LogIsRead : Type 0
LogIsRead = (block : List ℕ) (commits : List Commit) (rest : List ℕ) → IsBytes block → IsLog block commits rest
    → log_of block ≡ record { commits = commits; last = final_word 0xffffffff commits; rest = rest }

-- A block of bytes has a log: what is read of it.
abbrev pub BlocksHaveALog : Type 0
BlocksHaveALog = (block : List ℕ) → 4 ≤ length block → IsBytes block → IsLog block (log_of block).commits (log_of block).rest

-- The tags of a log's commits are valid, no checksums', and have as much data as they say.
abbrev pub LogTagsAreItems : Type 0
LogTagsAreItems = (block : List ℕ) (commits : List Commit) (rest : List ℕ) → IsLog block commits rest
    → AllByRecursion IsItem (log_tags commits)

-- Each tag of a block's log takes four bytes of the block, and more where it has data.
abbrev pub LogTagsAreFew : Type 0
LogTagsAreFew = (block : List ℕ) → IsBytes block → 4 * length (log_tags (log_of block).commits) ≤ length block

-- The test of erased bytes says whether they are.
abbrev pub ErasedIsDecided : Type 0
ErasedIsDecided = (bytes : List ℕ) → (is_erased bytes ≡ true) ↔ IsErased bytes

-- A block that is erased behind its revision has a log with no commit.
abbrev pub ErasedBlock : Type 0
ErasedBlock = (block : List ℕ) → 4 ≤ length block → IsBytes block → IsErased (drop 4 block) → IsLog block [] (drop 4 block)

-- A block with one commit behind its revision, and erased behind that, has that commit as its log.
abbrev pub FirstCommit : Type 0
FirstCommit = (block : List ℕ) (c : Commit) → IsCommit c →
    let new : List ℕ = commit_bytes (lead_at 4 block) 0xffffffff c in
    let rest : List ℕ = drop (4 + length new) block in
    4 + length new ≤ length block → IsErased rest → IsLog (put_at 4 new block) (c ∷ []) rest

-- A commit written behind a log whose rest is erased makes the log longer by it.
abbrev pub NextCommit : Type 0
NextCommit = (block : List ℕ) (commits : List Commit) (rest : List ℕ) (at : ℕ) (c : Commit) → IsLog block commits rest → IsErased rest
    → at + length rest ≡ length block → IsCommit c →
    let new : List ℕ = commit_bytes (lead_at at block) (final_word 0xffffffff commits) c in
    at + length new ≤ length block → IsLog (put_at at new block) (commits ++ c ∷ []) (drop (length new) rest)

-- The commit that tags are written as reaches to the next multiple of 16 behind its checksum.
abbrev pub WrittenLength : Type 0
WrittenLength = (lead : List ℕ) (at prev : ℕ) (tags : List Item) → at + length (commit_bytes lead prev (commit_of at tags))
    ≡ committed_end at tags
