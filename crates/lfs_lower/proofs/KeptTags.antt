-- What is kept of a block's tags is valid, and one commit of it ends within the block.
use Rattle.std.proofs.Common.{◌≡◌, ◌≢◌, ℕ, zero, suc, ◌+◌, ◌<◌, ◌≤◌, Bool, true, false, cond, eqb, List, [], ◌∷◌, ◌++◌}
use Rattle.std.proofs.Common.{length, drop, map, filter, Option, Some, None, option_map, refl, ap, subst, ◌∙◌, arith, eq-eqb}
use Rattle.std.specs.Int.{w32, from_le_bytes, to_le_bytes, bytes_low_first, bytes_high_first, byte_at}
use Rattle.std.specs.List.{AllByRecursion}
use Rattle.std.proofs.lemmas.Bool.{eqb-true}
use Rattle.std.proofs.lemmas.List.{length-append, length-drop}
use Rattle.lfs_block.specs.Bytes.{IsBytes}
use Rattle.lfs_block.specs.Geometry.{IsBlockSize}
use Rattle.lfs_block.proofs.PutLemmas.{IsBytes-append, IsBytes-drop}
use Rattle.lfs_tag.specs.Tag.{data_len, main_kind}
use Rattle.lfs_tag.specs.Commit.{Item, Commit, IsItem}
use Rattle.lfs_tag.specs.Log.{log_tags}
use Rattle.lfs_tag.specs.Writing.{tags_len, committed_end}
use Rattle.lfs_lower.specs.Spelled.{later_commits, is_said, tags_said, lowered_header, lowered_tag, tags_lowered, lowered_tags}
use Rattle.lfs_lower.proofs.ReadTags.{IsRead, CommitsRead, commits_read, tags_len-more}

-- ---- bytes of numbers

byte_at-below : (i n : ℕ) → byte_at i n < 256
byte_at-below zero n = omega arith
byte_at-below (suc i) n = omega arith

pub IsBytes-low : (i k n : ℕ) → IsBytes (bytes_low_first i k n)
IsBytes-low i zero n j = omega arith
IsBytes-low i (suc k) n zero = byte_at-below i n
IsBytes-low i (suc k) n (suc j) = IsBytes-low (suc i) k n j

pub IsBytes-high : (k n : ℕ) → IsBytes (bytes_high_first k n)
IsBytes-high zero n j = omega arith
IsBytes-high (suc k) n zero = byte_at-below k n
IsBytes-high (suc k) n (suc j) = IsBytes-high k n j

-- ---- tags

-- a tag that says something
pub record IsSaid (t : Item) : Type 0 where
  pub item : IsItem t
  pub bytes : IsBytes t.content

said_by : (t : Item) (ts : List Item) (b : Bool) → is_said t ≡ b → IsRead t → AllByRecursion IsSaid ts
    → AllByRecursion IsSaid (cond b (t ∷ ts) ts)
said_by t ts true e read all =
    let other : main_kind t.word ≢ 5 = λ x. let y : eqb (main_kind t.word) 5 ≡ true = eq-eqb _ _ x in absurd (cc (y, e)) in
    (record { item = record { valid = read.valid; kind = other; content = read.len }; bytes = read.bytes }, all)
said_by t ts false e read all = all

said : (ts : List Item) → AllByRecursion IsRead ts → AllByRecursion IsSaid (filter is_said ts)
said [] h = tt
said (t ∷ ts) h = said_by t (filter is_said ts) (is_said t) refl h.0 (said ts h.1)

fewer_by : (t : Item) (ts us : List Item) (b : Bool) → tags_len ts ≤ tags_len us → tags_len (cond b (t ∷ ts) ts) ≤ tags_len (t ∷ us)
fewer_by t ts us true le = omega (arith, le, tags_len-more t ts, tags_len-more t us)
fewer_by t ts us false le = omega (arith, le, tags_len-more t us)

fewer : (ts : List Item) → tags_len (filter is_said ts) ≤ tags_len ts
fewer [] = omega arith
fewer (t ∷ ts) = fewer_by t (filter is_said ts) ts (is_said t) (fewer ts)

-- ---- the version

-- other data of the same length
record IsLike (old new : List ℕ) : Type 0 where
  len : length new ≡ length old
  bytes : IsBytes new

header_by : (bytes : List ℕ) (b : Bool) → 4 ≤ length bytes → IsBytes bytes
    → IsLike bytes (cond b (to_le_bytes w32 0x00020000 ++ drop 4 bytes) bytes)
header_by bytes true long h = record {
  len = omega (arith, length-append (to_le_bytes w32 0x00020000) (drop 4 bytes), length-drop 4 bytes, long);
  bytes = IsBytes-append (to_le_bytes w32 0x00020000) (drop 4 bytes) (IsBytes-low 0 4 0x00020000) (IsBytes-drop 4 bytes h);
}
header_by bytes false long h = record { len = refl; bytes = h }

header_like : (bytes : List ℕ) → 4 ≤ length bytes → IsBytes bytes → IsLike bytes (lowered_header bytes)
header_like bytes long h = header_by bytes (eqb (from_le_bytes w32 bytes) 0x00020001) long h

-- a tag of the same word and length
record IsSaidLike (t u : Item) : Type 0 where
  said : IsSaid u
  len : length u.content ≡ length t.content

lowered_by : (t : Item) (b : Bool) → eqb t.word 0x20100018 ≡ b → IsSaid t
    → IsSaidLike t (cond b (record { word = t.word; content = lowered_header t.content }) t)
lowered_by t true e h =
    let word : t.word ≡ 0x20100018 = eqb-true _ _ e in
    let len : length t.content ≡ 24 = h.item.content ∙ ap data_len word in
    let like = header_like t.content (omega (arith, len)) h.bytes in
    record {
      said = record {
        item = record { valid = h.item.valid; kind = h.item.kind; content = like.len ∙ h.item.content };
        bytes = like.bytes;
      };
      len = like.len;
    }
lowered_by t false e h = record { said = h; len = refl }

-- tags of the same number of bytes
record AreSaidLike (ts us : List Item) : Type 0 where
  said : AllByRecursion IsSaid us
  len : tags_len us ≡ tags_len ts

all_lowered : (ts : List Item) → AllByRecursion IsSaid ts → AreSaidLike ts (map lowered_tag ts)
all_lowered [] h = record { said = tt; len = refl }
all_lowered (t ∷ ts) h =
    let one = lowered_by t (eqb t.word 0x20100018) refl h.0 in
    let more = all_lowered ts h.1 in
    record {
      said = (one.said, more.said);
      len = omega (arith, one.len, more.len, tags_len-more t ts, tags_len-more (lowered_tag t) (map lowered_tag ts));
    }

tags_like : (in_root : Bool) (ts : List Item) → AllByRecursion IsSaid ts → AreSaidLike ts (tags_lowered in_root ts)
tags_like true ts h = all_lowered ts h
tags_like false ts h = record { said = h; len = refl }

-- ---- a block

-- tags that one commit of a block has room for
pub record AreKept (size : ℕ) (ts : List Item) : Type 0 where
  pub said : AllByRecursion IsSaid ts
  pub fits : committed_end 4 ts ≤ size

-- what is said of tags that are kept, where there are some
abbrev pub AreKeptIf : ℕ → Option (List Item) → Type 0
AreKeptIf size None = Unit {0}
AreKeptIf size (Some ts) = AreKept size ts

kept_by : (in_root : Bool) (size : ℕ) (bytes : List ℕ) (cs : List Commit) → IsBlockSize size → length bytes + 4 ≡ size
    → CommitsRead bytes cs → AreKeptIf size (option_map (tags_lowered in_root) (tags_said cs))
kept_by in_root size bytes [] complete len h = tt
kept_by in_root size bytes (c ∷ cs) complete len h =
    let like = tags_like in_root (filter is_said (log_tags (c ∷ cs))) (said (log_tags (c ∷ cs)) h.tags) in
    let few = fewer (log_tags (c ∷ cs)) in
    record { said = like.said; fits = omega (arith, like.len, few, h.room, len, complete.2) }

pub kept_of_block : (in_root : Bool) (block : List ℕ) → IsBytes block → IsBlockSize (length block)
    → AreKeptIf (length block) (lowered_tags in_root block)
kept_of_block in_root block bytes complete =
    kept_by in_root (length block) (drop 4 block) (later_commits block) complete (omega (arith, length-drop 4 block, complete.0))
    (commits_read _ _ (drop 4 block) (IsBytes-drop 4 block bytes))

pub kept_fit : (in_root : Bool) (block : List ℕ) (ts : List Item) → IsBytes block → IsBlockSize (length block)
    → lowered_tags in_root block ≡ Some ts → AreKept (length block) ts
kept_fit in_root block ts bytes complete e = subst (AreKeptIf (length block)) e (kept_of_block in_root block bytes complete)
