-- Reading a journal's bytes, as functions that compute. Laws join them to what is spelled so (own).
use Rattle.std.specs.Prelude.{ℕ, zero, suc, ◌+◌, ◌==◌, ◌&&◌, ◌||◌, not, Bool, nat_lt, nat_le, List, [], ◌∷◌, length, take, drop}
use Rattle.std.specs.Prelude.{Option, Some, None, if◌then◌else◌}
use Rattle.std.specs.Int.{w32, from_le_bytes}
use Rattle.std.specs.List.{list_all}
use Rattle.lfs_block.specs.Change.{Change}
use Rattle.lfs_block.specs.Patch.{ChangeSet}
use Rattle.lfs_block.specs.Geometry.{is_geometry}
use Rattle.lfs_journal.specs.Book.{Book, book_of, most_changes}

-- what is read of what was read, if there is any
infixl 10 ◌>>=◌
abbrev pub ◌>>=◌ : {A B : Type 0} → Option A → (A → Option B) → Option B
None >>= f = None
(Some x) >>= f = f x

-- a number, and the bytes behind its four
unfoldable pub word_at : List ℕ → Option (ℕ × List ℕ)
word_at bytes = if nat_lt (length bytes) 4 then None else Some (from_le_bytes w32 (take 4 bytes), drop 4 bytes)

-- a block's bytes, and the bytes behind them
unfoldable pub block_at : ℕ → List ℕ → Option (List ℕ × List ℕ)
block_at size bytes = if nat_lt (length bytes) size then None else Some (take size bytes, drop size bytes)

-- whether each byte is 0xff
abbrev pub is_all_erased : List ℕ → Bool
is_all_erased bytes = list_all (λ b. b == 0xff) bytes

-- A change of one block, whose number is from `least` to below the count after. Where the image has no such block before, it is
-- erased before.
unfoldable pub change_at : ℕ → ℕ → ℕ → ℕ → List ℕ → Option (Change × List ℕ)
change_at size before after least bytes = do
  n ← word_at bytes
  if nat_lt n.0 least || nat_le after n.0 then None else (do
    old ← block_at size n.1
    new ← block_at size old.1
    if nat_le before n.0 && not (is_all_erased old.0)
        then None
        else Some (record { number = n.0; old = old.0; new = new.0 }, new.1))

-- so many changes of one block each, whose numbers rise
unfoldable pub changes_at : ℕ → ℕ → ℕ → ℕ → ℕ → List ℕ → Option (List Change × List ℕ)
changes_at size before after zero least bytes = Some ([], bytes)
changes_at size before after (suc n) least bytes = do
  first ← change_at size before after least bytes
  others ← changes_at size before after n (first.0.number + 1) first.1
  Some (first.0 ∷ others.0, others.1)

-- what stands before the changes: the version, the block size, the number of blocks, and how many changes are done and undone
pub record Head : Type 0 where
  pub version : ℕ
  pub size : ℕ
  pub count : ℕ
  pub done : ℕ
  pub undone : ℕ

-- whether blocks of this size are an image in both numbers, of which the second isn't less
abbrev pub is_growth : ℕ → ℕ → ℕ → Bool
is_growth size before after = is_geometry size before && is_geometry size after && nat_le before after

-- the counts before and after a change, which version 1 doesn't have: there they are the image's
unfoldable pub counts_at : Head → List ℕ → Option ((ℕ × ℕ) × List ℕ)
counts_at h bytes = if h.version == 1 then Some ((h.count, h.count), bytes) else (do
  before ← word_at bytes
  after ← word_at before.1
  if is_growth h.size before.0 after.0 then Some ((before.0, after.0), after.1) else None)

-- a change of one block or more
unfoldable pub patch_at : Head → List ℕ → Option (ChangeSet × List ℕ)
patch_at h bytes = do
  n ← word_at bytes
  if n.0 == 0 then None else (do
    counts ← counts_at h n.1
    changes ← changes_at h.size counts.0.0 counts.0.1 n.0 0 counts.1
    Some (record { size = h.size; before = counts.0.0; after = counts.0.1; changes = changes.0 }, changes.1))

-- so many changes
unfoldable pub patches_at : Head → ℕ → List ℕ → Option (List ChangeSet × List ℕ)
patches_at h zero bytes = Some ([], bytes)
patches_at h (suc n) bytes = do
  first ← patch_at h bytes
  others ← patches_at h n first.1
  Some (first.0 ∷ others.0, others.1)

-- whether a version is read
abbrev pub is_version : ℕ → Bool
is_version version = (version == 1) || (version == 2)

-- whether the image keeps its limits, and there are not too many changes
abbrev pub is_head : Head → Bool
is_head h = is_geometry h.size h.count && nat_le (h.done + h.undone) most_changes

-- the letters `lfsj` and version 1 or 2, and what is wanted of the other words
abbrev pub checked_head : ℕ → Head → List ℕ → Option (Head × List ℕ)
checked_head letters h rest = if (letters == 0x6a73666c) && is_version h.version && is_head h then Some (h, rest) else None

-- the six words before the changes
unfoldable pub head_at : List ℕ → Option (Head × List ℕ)
head_at bytes = do
  letters ← word_at bytes
  version ← word_at letters.1
  size ← word_at version.1
  count ← word_at size.1
  done ← word_at count.1
  undone ← word_at done.1
  checked_head letters.0 (record { version = version.0; size = size.0; count = count.0; done = done.0; undone = undone.0 }) undone.1

-- all of the bytes
unfoldable pub read_book : List ℕ → Option Book
read_book bytes = do
  head ← head_at bytes
  patches ← patches_at head.0 (head.0.done + head.0.undone) head.1
  if length patches.1 == 0 then Some (book_of head.0.size head.0.count patches.0 head.0.done) else None
