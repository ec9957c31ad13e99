-- A block that is spelled for version 2.0, read back.
use Rattle.std.proofs.Common.{◌≡◌, ℕ, ◌+◌, ◌-◌, ◌^◌, ◌<◌, ◌≤◌, List, [], ◌∷◌, ◌++◌, length, take, drop}
use Rattle.std.proofs.Common.{Option, Some, None, refl, ap, ◌∙◌, arith, bit_xor}
use Rattle.std.specs.Int.{w32, from_le_bytes, to_le_bytes, to_be_bytes}
use Rattle.std.specs.List.{AllByRecursion}
use Rattle.std.proofs.lemmas.List.{take_at, length-append, length-drop, length-replicate}
use Rattle.std.proofs.lemmas.Nat.{from_le_bytes-to_le_bytes_4}
use Rattle.lfs_block.specs.Bytes.{IsBytes}
use Rattle.lfs_block.specs.Checksum.{crc}
use Rattle.lfs_block.specs.Disk.{erased_block, put_at}
use Rattle.lfs_block.specs.Geometry.{IsBlockSize}
use Rattle.lfs_block.proofs.PutLemmas.{IsBytes-append, IsBytes-drop, IsBytes-take, IsBytes-replicate}
use Rattle.lfs_tag.specs.Commit.{Item, Commit, IsItem, tags_bytes, last_word, covered_bytes, commit_bytes}
use Rattle.lfs_tag.specs.Laws.{ErasedBlock, FirstCommit, LogIsRead, WrittenLength}
use Rattle.lfs_tag.specs.Writing.{tags_len, committed_end, commit_of, lead_at}
use Rattle.lfs_tag.proofs.Puts.{put_at-len, before-put_at, commit_of-valid}
use Rattle.lfs_meta.specs.LiveBlock.{committed, revision}
use Rattle.lfs_pair.specs.Writing.{revised, log_written}
use Rattle.lfs_pair.proofs.LogLemmas.{erased-uncommitted, written-committed}
use Rattle.lfs_lower.specs.Spelled.{spelled}
use Rattle.lfs_lower.proofs.KeptTags.{IsSaid, AreKeptIf, IsBytes-low, IsBytes-high}

-- ---- bytes

IsBytes-tags : (prev : ℕ) (ts : List Item) → AllByRecursion IsSaid ts → IsBytes (tags_bytes prev ts)
unfolding tags_bytes
IsBytes-tags prev [] h = λ i. omega arith
IsBytes-tags prev (t ∷ ts) h =
    IsBytes-append (to_be_bytes w32 (bit_xor t.word prev) ++ t.content) (tags_bytes t.word ts)
    (IsBytes-append (to_be_bytes w32 (bit_xor t.word prev)) t.content (IsBytes-high 4 (bit_xor t.word prev)) h.0.bytes)
    (IsBytes-tags t.word ts h.1)

IsBytes-commit : (lead : List ℕ) (at prev : ℕ) (ts : List Item) → AllByRecursion IsSaid ts → IsBytes (commit_bytes lead prev (commit_of at ts))
IsBytes-commit lead at prev ts h =
    let c : Commit = commit_of at ts in
    let word : List ℕ = to_be_bytes w32 (bit_xor c.closing (last_word prev ts)) in
    let sum : List ℕ = to_le_bytes w32 (crc 0xffffffff (lead ++ covered_bytes prev c)) in
    IsBytes-append (tags_bytes prev ts ++ word ++ sum) c.padding
    (IsBytes-append (tags_bytes prev ts ++ word) sum
    (IsBytes-append (tags_bytes prev ts) word (IsBytes-tags prev ts h) (IsBytes-high 4 (bit_xor c.closing (last_word prev ts))))
    (IsBytes-low 0 4 (crc 0xffffffff (lead ++ covered_bytes prev c))))
    (IsBytes-replicate (committed_end at ts - (at + tags_len ts + 8)) 0xff (omega arith))

IsBytes-put : (at : ℕ) (new bytes : List ℕ) → IsBytes new → IsBytes bytes → IsBytes (put_at at new bytes)
IsBytes-put at new bytes h k =
    IsBytes-append (take at bytes ++ new) (drop (at + length new) bytes)
    (IsBytes-append (take at bytes) new (IsBytes-take at bytes k) h) (IsBytes-drop (at + length new) bytes k)

IsBytes-erased : (size : ℕ) → IsBytes (erased_block size)
IsBytes-erased size = IsBytes-replicate size 0xff (omega arith)

IsBytes-revised : (number : ℕ) (block : List ℕ) → IsBytes block → IsBytes (revised number block)
IsBytes-revised number block h = IsBytes-append (to_le_bytes w32 number) (drop 4 block) (IsBytes-low 0 4 number) (IsBytes-drop 4 block h)

-- ---- blocks

-- what is read back of a block that is spelled
pub record IsReadBack (size number : ℕ) (tags : Option (List Item)) : Type 0 where
  pub len : length (spelled size number tags) ≡ size
  pub held : committed (spelled size number tags) ≡ tags
  pub bytes : IsBytes (spelled size number tags)

-- the laws of logs
pub record LogLaws : Type 0 where
  pub first : FirstCommit
  pub read : LogIsRead
  pub written : WrittenLength
  pub erased : ErasedBlock

said_items : (ts : List Item) → AllByRecursion IsSaid ts → AllByRecursion IsItem ts
said_items [] h = tt
said_items (t ∷ ts) h = (h.0.item, said_items ts h.1)

revised_len : (size number : ℕ) → 4 ≤ size → length (revised number (erased_block size)) ≡ size
revised_len size number long =
    omega (
      arith,
      length-append (to_le_bytes w32 number) (drop 4 (erased_block size)),
      length-drop {A = ℕ} 4 (erased_block size),
      length-replicate {A = ℕ} size 255,
      long,
    )

pub read_back : LogLaws → (size number : ℕ) (tags : Option (List Item)) → IsBlockSize size → AreKeptIf size tags → IsReadBack size number tags
read_back laws size number None complete kept = record {
  len = length-replicate {A = ℕ} size 255;
  held = erased-uncommitted laws.erased laws.read size (omega (arith, complete.0));
  bytes = IsBytes-erased size;
}
read_back laws size number (Some ts) complete kept =
    let block : List ℕ = revised number (erased_block size) in
    let new : List ℕ = commit_bytes (lead_at 4 block) 0xffffffff (commit_of 4 ts) in
    let long : length block ≡ size = revised_len size number (omega (arith, complete.0)) in
    let new_len : 4 + length new ≡ committed_end 4 ts = laws.written (lead_at 4 block) 4 0xffffffff ts in
    let bytes : IsBytes (log_written number ts (erased_block size)) =
    IsBytes-put 4 new block (IsBytes-commit (lead_at 4 block) 4 0xffffffff ts kept.said)
    (IsBytes-revised number (erased_block size) (IsBytes-erased size)) in
    record {
      len = put_at-len 4 new block (omega (arith, new_len, long, kept.fits)) ∙ long;
      held = written-committed laws.first laws.read laws.written number size ts kept.fits (commit_of-valid 4 ts (said_items ts kept.said)) bytes;
      bytes = bytes;
    }

pub revision_back : (size number : ℕ) (ts : List Item) → number < 2 ^ 32 → 4 ≤ size → revision (spelled size number (Some ts)) ≡ number
revision_back size number ts small long =
    let block : List ℕ = revised number (erased_block size) in
    let new : List ℕ = commit_bytes (lead_at 4 block) 0xffffffff (commit_of 4 ts) in
    ap (from_le_bytes w32) (before-put_at 4 4 new block (omega arith) (omega (arith, revised_len size number long))
    ∙ take_at (to_le_bytes w32 number) (drop 4 (erased_block size)) 4 refl)
    ∙ from_le_bytes-to_le_bytes_4 number small
