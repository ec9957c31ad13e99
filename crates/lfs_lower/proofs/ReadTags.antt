-- The tags that version 2.1 reads of a block are valid, and leave eight bytes of the block for each commit.
use Rattle.std.proofs.Common.{◌≡◌, ℕ, zero, suc, ◌+◌, ◌*◌, ◌^◌, ◌<◌, ◌≤◌, Bool, true, false, cond, ltb, leb, eqb, ◌&&◌}
use Rattle.std.proofs.Common.{List, [], ◌∷◌, ◌++◌, length, take, drop, Option, Some, None, option_map, refl, sym, ap, subst, arith}
use Rattle.std.specs.Int.{w32, from_le_bytes}
use Rattle.std.specs.List.{AllByRecursion}
use Rattle.std.proofs.lemmas.Bool.{leb-true, and_parts}
use Rattle.std.proofs.lemmas.List.{length-append}
use Rattle.std.proofs.lemmas.List.Concat.{flat_map-cons}
use Rattle.std.proofs.lemmas.List.Sums.{sum_by-append, sum_by-cons}
use Rattle.std.proofs.lemmas.Option.{cond_some}
use Rattle.lfs_block.specs.Bytes.{IsBytes}
use Rattle.lfs_block.specs.Checksum.{crc}
use Rattle.lfs_tag.specs.Tag.{len_of, data_len}
use Rattle.lfs_tag.specs.Commit.{Item, Commit, next_word}
use Rattle.lfs_tag.specs.Log.{log_tags}
use Rattle.lfs_tag.specs.Reading.{TagFront, tag_at, CommitFront, with_tag, closed, commit_step, commit_within, commit_by}
use Rattle.lfs_tag.specs.Writing.{tags_len}
use Rattle.lfs_tag.proofs.Codec.{tag_takes}
use Rattle.lfs_tag.proofs.Erased.{AllByRecursion-append}
use Rattle.lfs_tag.proofs.Steps.{map_some, tag_cut, commit_by-shorter}
use Rattle.lfs_lower.specs.Commits.{closes, later_at, commits_from}
use Rattle.lfs_lower.proofs.LaterSteps.{commits_from-none, commits_from-more}

-- a valid tag with as many bytes of data as it says
pub record IsRead (t : Item) : Type 0 where
  pub valid : t.word < 2 ^ 31
  pub len : length t.content ≡ data_len t.word
  pub bytes : IsBytes t.content

pub tags_len-more : (t : Item) (ts : List Item) → tags_len (t ∷ ts) ≡ 4 + length t.content + tags_len ts
tags_len-more t ts = sum_by-cons (λ (u : Item). 4 + length u.content) t ts

-- ---- a commit

-- the tags of a commit at the front of bytes
record CommitReads (bytes : List ℕ) (r : CommitFront) : Type 0 where
  tags : AllByRecursion IsRead r.commit.tags
  room : tags_len r.commit.tags + 8 + length r.rest ≤ length bytes
  rest : IsBytes r.rest

-- the bytes of a tag
tag_room : (prev : ℕ) (bytes : List ℕ) (f : TagFront) → tag_at prev bytes ≡ Some f
    → 4 + length f.item.content + length f.rest ≡ length bytes
tag_room prev bytes f e =
    let cut = tag_cut prev bytes f e in
    omega (
      arith,
      cut.len,
      ap length cut.parts,
      length-append f.stored (f.item.content ++ f.rest),
      length-append f.item.content f.rest,
    )

closed_reads : (sum : ℕ) (bytes : List ℕ) (f : TagFront) (r : CommitFront) → IsBytes f.rest
    → 4 + length f.item.content + length f.rest ≡ length bytes → closed sum f ≡ Some r → CommitReads bytes r
unfolding closed
closed_reads sum bytes f r behind room e =
    let content : List ℕ = f.item.content in
    let found : CommitFront = record { commit = record { tags = []; closing = f.item.word; padding = drop 4 content }; rest = f.rest } in
    let g = cond_some ((ltb (len_of f.item.word) 0x3ff && leb 4 (length content)) && eqb (from_le_bytes w32 (take 4 content)) sum) found r
    e in
    let a = and_parts (ltb (len_of f.item.word) 0x3ff && leb 4 (length content)) (eqb (from_le_bytes w32 (take 4 content)) sum) g.0 in
    let b = and_parts (ltb (len_of f.item.word) 0x3ff) (leb 4 (length content)) a.0 in
    let long : 4 ≤ length content = leb-true _ _ b.1 in
    let all : CommitReads bytes found = record { tags = tt; room = omega (arith, long, room); rest = behind } in
    subst (CommitReads bytes) g.1 all

abbrev Reader : Type 0
Reader = ℕ → ℕ → List ℕ → Option CommitFront

abbrev Reads : Reader → Type 0
Reads read = (sum prev : ℕ) (bytes : List ℕ) (r : CommitFront) → IsBytes bytes → read sum prev bytes ≡ Some r → CommitReads bytes r

step_reads-tag : (read : Reader) → Reads read → (sum : ℕ) (bytes : List ℕ) (f : TagFront) (r : CommitFront) → IsRead f.item → IsBytes f.rest
    → 4 + length f.item.content + length f.rest ≡ length bytes → (b : Bool)
    → cond b (closed (crc sum f.stored) f) (option_map (with_tag f.item) (read (crc (crc sum f.stored) f.item.content) f.item.word f.rest))
    ≡ Some r
    → CommitReads bytes r
step_reads-tag read reads sum bytes f r item behind room true d = closed_reads (crc sum f.stored) bytes f r behind room d
step_reads-tag read reads sum bytes f r item behind room false d =
    let m = map_some (with_tag f.item) (read (crc (crc sum f.stored) f.item.content) f.item.word f.rest) r d in
    let below = reads (crc (crc sum f.stored) f.item.content) f.item.word f.rest m.0 behind m.1 in
    let all : CommitReads bytes (with_tag f.item m.0) = record {
      tags = (item, below.tags);
      room = omega (arith, below.room, room, tags_len-more f.item m.0.commit.tags);
      rest = below.rest;
    } in
    subst (CommitReads bytes) m.2 all

step_reads : (read : Reader) → Reads read → (sum prev : ℕ) (bytes : List ℕ) (r : CommitFront) → IsBytes bytes → (o : Option TagFront)
    → tag_at prev bytes ≡ o → commit_step closes read sum o ≡ Some r → CommitReads bytes r
step_reads read reads sum prev bytes r h None k d = absurd cc
step_reads read reads sum prev bytes r h (Some f) k d =
    let takes = tag_takes prev bytes f h k in
    step_reads-tag read reads sum bytes f r (record { valid = takes.valid; len = takes.len; bytes = takes.content_bytes }) takes.rest_bytes
    (tag_room prev bytes f k) (closes f.item.word) d

commit_reads-within : (n sum prev : ℕ) (bytes : List ℕ) (r : CommitFront) → IsBytes bytes → commit_within closes n sum prev bytes ≡ Some r
    → CommitReads bytes r
unfolding commit_within
commit_reads-within zero sum prev bytes r h e = absurd cc
commit_reads-within (suc n) sum prev bytes r h e =
    step_reads (commit_within closes n) (λ s p b q k d. commit_reads-within n s p b q k d) sum prev bytes r h (tag_at prev bytes) refl e

commit_reads : (sum prev : ℕ) (bytes : List ℕ) (r : CommitFront) → IsBytes bytes → later_at sum prev bytes ≡ Some r → CommitReads bytes r
unfolding commit_by
commit_reads sum prev bytes r h e = commit_reads-within (suc (length bytes)) sum prev bytes r h e

-- ---- commits one behind another

-- the tags of commits at the front of bytes
pub record CommitsRead (bytes : List ℕ) (cs : List Commit) : Type 0 where
  pub tags : AllByRecursion IsRead (log_tags cs)
  pub room : tags_len (log_tags cs) + 8 * length cs ≤ length bytes

commits_read-by : (n sum prev : ℕ) (bytes : List ℕ) (o : Option CommitFront) → length bytes < suc n → IsBytes bytes
    → later_at sum prev bytes ≡ o
    → ((s p : ℕ) (b : List ℕ) → length b < n → IsBytes b → CommitsRead b (commits_from s p b))
    → CommitsRead bytes (commits_from sum prev bytes)
commits_read-by n sum prev bytes None few h e more =
    subst (CommitsRead bytes) (sym (commits_from-none sum prev bytes e)) (record { tags = tt; room = omega arith })
commits_read-by n sum prev bytes (Some r) few h e more =
    let one = commit_reads sum prev bytes r h e in
    let less = commit_by-shorter closes sum prev bytes r e in
    let cs : List Commit = commits_from 0xffffffff (next_word r.commit) r.rest in
    let behind : CommitsRead r.rest cs = more 0xffffffff (next_word r.commit) r.rest (omega (arith, less, few)) one.rest in
    let tags : log_tags (r.commit ∷ cs) ≡ r.commit.tags ++ log_tags cs = flat_map-cons (λ (d : Commit). d.tags) r.commit cs in
    let all : CommitsRead bytes (r.commit ∷ cs) = record {
      tags = subst (AllByRecursion IsRead) (sym tags) (AllByRecursion-append IsRead r.commit.tags (log_tags cs) one.tags behind.tags);
      room = omega (
        arith,
        one.room,
        behind.room,
        ap tags_len tags,
        sum_by-append (λ (u : Item). 4 + length u.content) r.commit.tags (log_tags cs),
      );
    } in
    subst (CommitsRead bytes) (sym (commits_from-more sum prev bytes r e)) all

commits_read-within : (n sum prev : ℕ) (bytes : List ℕ) → length bytes < n → IsBytes bytes → CommitsRead bytes (commits_from sum prev bytes)
commits_read-within zero sum prev bytes few h = absurd (omega arith)
commits_read-within (suc n) sum prev bytes few h =
    commits_read-by n sum prev bytes (later_at sum prev bytes) few h refl (λ s p b less k. commits_read-within n s p b less k)

pub commits_read : (sum prev : ℕ) (bytes : List ℕ) → IsBytes bytes → CommitsRead bytes (commits_from sum prev bytes)
commits_read sum prev bytes h = commits_read-within (suc (length bytes)) sum prev bytes (omega arith) h
