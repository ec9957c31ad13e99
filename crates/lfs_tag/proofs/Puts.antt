-- Bytes written one behind another, and the loop that writes edits: what is left to write decides the whole.
use Rattle.std.proofs.Common.{◌≡◌, ℕ, ◌+◌, ◌-◌, ◌*◌, ◌/◌, ◌<◌, ◌≤◌, List, [], ◌∷◌, ◌++◌, length, take, drop, cond, eqb, refl, sym, ap, ◌∙◌}
use Rattle.std.proofs.Common.{append_assoc, arith, bit_xor, get_or, inl, inr, nat_le}
use Rattle.std.proofs.lemmas.Bool.{le-leb, lt-leb}
use Rattle.std.proofs.lemmas.Bool.Decides.{leb_tells}
use Rattle.std.specs.Int.{w32, to_be_bytes, to_le_bytes}
use Rattle.std.proofs.lemmas.List.{take_at, drop_at, append-nil, length-append, length-take, length-drop, take-append-drop, take-append-le}
use Rattle.std.proofs.lemmas.List.{take-take, length-replicate, map-append, take_more}
use Rattle.std.proofs.lemmas.List.Sums.{sum_by-cons, sum_by_push}
use Rattle.std.proofs.lemmas.Slice.{drop-append-drop}
use Rattle.lfs_block.specs.Checksum.{crc}
use Rattle.lfs_block.specs.Disk.{put_at}
use Rattle.std.specs.List.{AllByRecursion}
use Rattle.lfs_tag.specs.declared.edit.Edit.{Edit}
use Rattle.lfs_tag.specs.Commit.{Item, Commit, IsItem, IsCommit, tags_bytes, last_word, covered_bytes, commit_bytes, next_word}
use Rattle.lfs_tag.specs.EditData.{data_bytes}
use Rattle.lfs_tag.specs.Writing.{item_of, items, tags_len, committed_end, commit_of, lead_at}

pub put_at-len : (at : ℕ) (a s : List ℕ) → at + length a ≤ length s → length (put_at at a s) ≡ length s
put_at-len at a s h =
    omega (
      arith,
      h,
      length-append (take at s ++ a) (drop (at + length a) s),
      length-append (take at s) a,
      length-take at s,
      length-drop (at + length a) s,
    )

pub put_at-then : (at n : ℕ) (a b s : List ℕ) → n ≡ at + length a → n + length b ≤ length s
    → put_at n b (put_at at a s) ≡ put_at at (a ++ b) s
put_at-then at n a b s e h =
    let front : List ℕ = take at s ++ a in
    let complete : List ℕ = put_at at a s in
    let len : length front ≡ at + length a = omega (arith, h, e, length-append (take at s) a, length-take at s) in
    let cut : take n complete ≡ front = take_at front (drop (at + length a) s) n (len ∙ sym e) in
    let rest : drop (n + length b) complete ≡ drop (n + length b) s = drop-append-drop (at + length a) s front (n + length b)
    (omega (arith, e)) len in
    let past : n + length b ≡ at + length (a ++ b) = omega (arith, e, length-append a b) in
    ap (λ (x : List ℕ). x ++ b ++ drop (n + length b) complete) cut
    ∙ ap (λ (x : List ℕ). front ++ b ++ x) rest
    ∙ ap (λ (k : ℕ). front ++ b ++ drop k s) past
    ∙ ap (λ (x : List ℕ). x ++ drop (at + length (a ++ b)) s) (append_assoc (take at s) a b)

pub put_at-nothing : (at : ℕ) (s : List ℕ) → put_at at [] s ≡ s
put_at-nothing at s =
    let past : at + length (drop 0 s) ≡ at + length s = omega arith in
    ap (λ (x : List ℕ). x ++ drop (at + 0) s) (append-nil (take at s))
    ∙ ap (λ (k : ℕ). take at s ++ drop k s) (omega arith)
    ∙ take-append-drop at s

pub length-tags_bytes : (prev : ℕ) (ts : List Item) → length (tags_bytes prev ts) ≡ tags_len ts
unfolding tags_bytes
length-tags_bytes prev [] = refl
length-tags_bytes prev (t ∷ ts) =
    omega (
      arith,
      length-append (to_be_bytes w32 (bit_xor t.word prev) ++ t.content) (tags_bytes t.word ts),
      length-tags_bytes t.word ts,
      sum_by-cons (λ (u : Item). 4 + length u.content) t ts,
    )

-- the bytes of one more tag with its data
pub tags_len-more : (edits : List Edit) (i : ℕ) (edit : Edit) → i < length edits → edit ≡ get_or edits i edit
    → tags_len (items (take (i + 1) edits)) ≡ tags_len (items (take i edits)) + (4 + length (data_bytes edit.content))
tags_len-more edits i edit within is =
    ap (λ (es : List Edit). tags_len (items es)) (take_more edits i edit within)
    ∙ ap tags_len (map-append item_of (take i edits) (get_or edits i edit ∷ []))
    ∙ sum_by_push (λ (t : Item). 4 + length t.content) (items (take i edits)) (item_of (get_or edits i edit))
    ∙ ap (λ (e : Edit). tags_len (items (take i edits)) + (4 + length (data_bytes e.content))) (sym is)

-- a commit ends within a block where the last multiple of 16 leaves room for the checksum behind its tags
pub fits-told : (at tags size : ℕ) → nat_le 8 (size / 16 * 16 - at - tags) ≡ nat_le ((at + tags + 8 + 15) / 16 * 16) size
fits-told at tags size = elim (leb_tells 8 (size / 16 * 16 - at - tags)) [
  | inl fits ↦ fits.0 ∙ sym (le-leb ((at + tags + 8 + 15) / 16 * 16) size (omega (arith, fits.1)))
  | inr past ↦ past.0 ∙ sym (lt-leb ((at + tags + 8 + 15) / 16 * 16) size (omega (arith, past.1)))
]

-- at `place` of `now`, behind the word `last`, the tags `left` are still to be written
pub record EditsLoop (at prev : ℕ) (all : List Item) (old : List ℕ) (place last : ℕ) (left : List Item) (now : List ℕ) : Type 0 where
  pub written : put_at place (tags_bytes last left) now ≡ put_at at (tags_bytes prev all) old
  pub word : last_word last left ≡ last_word prev all
  pub reach : place + tags_len left ≡ at + tags_len all
  pub len : length now ≡ length old

pub EditsLoop-first : (at prev : ℕ) (all : List Item) (old : List ℕ) → EditsLoop at prev all old at prev all old
EditsLoop-first at prev all old = record { written = refl; word = refl; reach = refl; len = refl }

pub EditsLoop-more : (at prev : ℕ) (all : List Item) (old : List ℕ) (place last : ℕ) (t : Item) (left : List Item) (now : List ℕ) (next : ℕ)
    (written : List ℕ)
    → at + tags_len all ≤ length old → EditsLoop at prev all old place last (t ∷ left) now
    → next ≡ place + 4 + length t.content → written ≡ put_at place (to_be_bytes w32 (bit_xor t.word last) ++ t.content) now
    → EditsLoop at prev all old next t.word left written
unfolding tags_bytes last_word
EditsLoop-more at prev all old place last t left now next written fits h n w =
    let front : List ℕ = to_be_bytes w32 (bit_xor t.word last) ++ t.content in
    let rest : List ℕ = tags_bytes t.word left in
    let sums : tags_len (t ∷ left) ≡ 4 + length t.content + tags_len left = sum_by-cons (λ (u : Item). 4 + length u.content) t left in
    let room : next + length rest ≤ length now = omega (arith, fits, h.reach, h.len, n, sums, length-tags_bytes t.word left) in
    record {
      written = ap (put_at next rest) w ∙ put_at-then place next front rest now (omega (arith, n)) room ∙ h.written;
      word = h.word;
      reach = omega (arith, h.reach, n, sums);
      len = ap length w ∙ put_at-len place front now (omega (arith, room, n)) ∙ h.len;
    }

pub EditsLoop-last : (at prev : ℕ) (all : List Item) (old : List ℕ) (place last : ℕ) (now : List ℕ)
    → EditsLoop at prev all old place last [] now
    → (now ≡ put_at at (tags_bytes prev all) old) × (place ≡ at + tags_len all) × (last ≡ last_word prev all)
unfolding tags_bytes last_word
EditsLoop-last at prev all old place last now h =
    (sym (put_at-nothing place now) ∙ h.written, omega (arith, h.reach), h.word)

pub four_puts : (at n₁ n₂ n₃ : ℕ) (s a b d e b₁ b₂ b₃ b₄ : List ℕ) → b₁ ≡ put_at at a s → b₂ ≡ put_at n₁ b b₁ → b₃ ≡ put_at n₂ d b₂
    → b₄ ≡ put_at n₃ e b₃
    → n₁ ≡ at + length a → n₂ ≡ n₁ + length b → n₃ ≡ n₂ + length d → n₃ + length e ≤ length s
    → (b₂ ≡ put_at at (a ++ b) s) × (b₄ ≡ put_at at ((a ++ b) ++ d ++ e) s)
four_puts at n₁ n₂ n₃ s a b d e b₁ b₂ b₃ b₄ p q r t i j k fits =
    let two : b₂ ≡ put_at at (a ++ b) s = q ∙ ap (put_at n₁ b) p ∙ put_at-then at n₁ a b s i (omega arith) in
    let three : b₃ ≡ put_at at ((a ++ b) ++ d) s = r ∙ ap (put_at n₂ d) two
    ∙ put_at-then at n₂ (a ++ b) d s (omega (arith, i, j, length-append a b)) (omega arith) in (
      two,
      t ∙ ap (put_at n₃ e) three ∙ put_at-then at n₃ ((a ++ b) ++ d) e s
          (omega (arith, i, j, k, length-append a b, length-append (a ++ b) d)) fits,
    )

-- what stands where it was put, and before it
pub at-put_at : (at : ℕ) (a s : List ℕ) → at ≤ length s → take (length a) (drop at (put_at at a s)) ≡ a
at-put_at at a s h =
    let rest : List ℕ = drop (at + length a) s in
    ap (take (length a)) (ap (drop at) (append_assoc (take at s) a rest)
    ∙ drop_at (take at s) (a ++ rest) at (omega (arith, h, length-take at s)))
    ∙ take_at a rest (length a) refl

pub before-put_at : (at n : ℕ) (a s : List ℕ) → n ≤ at → at ≤ length s → take n (put_at at a s) ≡ take n s
before-put_at at n a s le h =
    let rest : List ℕ = drop (at + length a) s in
    ap (take n) (append_assoc (take at s) a rest)
    ∙ take-append-le n (take at s) (a ++ rest) (omega (arith, le, h, length-take at s))
    ∙ take-take n at s le

pub lead_at-put_at : (at : ℕ) (a s : List ℕ) → 4 ≤ at → at ≤ length s → lead_at at (put_at at a s) ≡ lead_at at s
lead_at-put_at at a s le h = ap (λ (x : List ℕ). cond (eqb at 4) x []) (before-put_at at 4 a s le h)

-- ---- the commit that is written

pub items-valid : (edits : List Edit) → AllByRecursion IsItem (items edits)
items-valid [] = tt
items-valid (e ∷ es) =
    (record { valid = omega (arith, e.tag.kind_fits, e.tag.id_fits, e.tag.len_fits); kind = e.kind; content = e.len }, items-valid es)

pub commit_of-valid : (at : ℕ) (ts : List Item) → AllByRecursion IsItem ts → IsCommit (commit_of at ts)
commit_of-valid at ts h =
    let end : ℕ = committed_end at ts in
    let low : at + tags_len ts + 8 ≤ end = omega arith in
    let high : end ≤ at + tags_len ts + 23 = omega arith in
    record {
      tags = h;
      valid = omega arith;
      kind = omega arith;
      not_deleted = omega arith;
      padding = omega (arith, length-replicate {A = ℕ} (end - (at + tags_len ts + 8)) 0xff);
    }

pub closing-next : (at : ℕ) (ts : List Item) → next_word (commit_of at ts) ≡ (commit_of at ts).closing
closing-next at ts =
    let low : at + tags_len ts + 8 ≤ committed_end at ts = omega arith in
    let high : committed_end at ts ≤ at + tags_len ts + 23 = omega arith in
    omega arith

-- a commit that is written reaches to its end
pub commit_len : (lead : List ℕ) (at prev : ℕ) (ts : List Item) → at + length (commit_bytes lead prev (commit_of at ts))
    ≡ committed_end at ts
commit_len lead at prev ts =
    let c : Commit = commit_of at ts in
    let tags : List ℕ = tags_bytes prev ts in
    let word : List ℕ = to_be_bytes w32 (bit_xor c.closing (last_word prev ts)) in
    let sum : List ℕ = to_le_bytes w32 (crc 0xffffffff (lead ++ covered_bytes prev c)) in
    let low : at + tags_len ts + 8 ≤ committed_end at ts = omega arith in
    omega (
      arith,
      length-append (tags ++ word ++ sum) c.padding,
      length-append (tags ++ word) sum,
      length-append tags word,
      length-tags_bytes prev ts,
      length-replicate {A = ℕ} (committed_end at ts - (at + tags_len ts + 8)) 0xff,
    )
