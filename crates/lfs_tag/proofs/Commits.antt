-- A commit that is read is spelled so, and one that is spelled so is read.
use Rattle.std.proofs.Common.{◌≡◌, ◌≢◌, ℕ, zero, suc, ◌^◌, ◌<◌, ◌≤◌, Bool, true, false, cond, ltb, leb, eqb, ◌&&◌, List, [], ◌∷◌, ◌++◌}
use Rattle.std.proofs.Common.{length, take, drop, Option, Some, None, option_map, refl, sym, ap, subst, ◌∙◌, append_assoc, arith, bit_xor}
use Rattle.std.proofs.Common.{eq-eqb}
use Rattle.std.specs.Int.{w32, to_be_bytes, from_le_bytes, to_le_bytes}
use Rattle.std.proofs.lemmas.Bool.{eqb-true, ltb-true, leb-true, lt-ltb, le-leb, and_parts}
use Rattle.std.proofs.lemmas.List.{take-append-drop, length-take, length-drop}
use Rattle.std.proofs.lemmas.Nat.{le_bytes_4, from_le_bytes-to_le_bytes_4}
use Rattle.std.proofs.lemmas.Option.{cond_some}
use Rattle.lfs_block.specs.Checksum.{crc}
use Rattle.lfs_block.specs.Bytes.{IsBytes}
use Rattle.lfs_block.proofs.PutLemmas.{IsBytes-take}
use Rattle.lfs_tag.specs.Tag.{main_kind, len_of, data_len}
use Rattle.lfs_tag.specs.Commit.{Item, Commit, IsItem, IsCommit, tags_bytes, last_word, covered_bytes, commit_bytes}
use Rattle.lfs_tag.specs.Reading.{TagFront, tag_at, CommitFront, with_tag, closed, commit_step, commit_within, commit_by, is_checksum, commit_at}
use Rattle.lfs_tag.proofs.Steps.{map_some, commit_at-closed, commit_at-more}
use Rattle.lfs_tag.proofs.Codec.{IsBytes-front, IsBytes-back, TagTakes, tag_takes, tag_again}
use Rattle.lfs_tag.proofs.Sums.{crc-append, crc-below}

-- a commit as it is stored where `sum` is the checksum of its lead
abbrev pub sealed : ℕ → ℕ → Commit → List ℕ
sealed sum prev c = covered_bytes prev c ++ to_le_bytes w32 (crc sum (covered_bytes prev c)) ++ c.padding

pub commit_bytes-sealed : (lead : List ℕ) (prev : ℕ) (c : Commit) → commit_bytes lead prev c ≡ sealed (crc 0xffffffff lead) prev c
commit_bytes-sealed lead prev c =
    ap (λ (s : ℕ). covered_bytes prev c ++ to_le_bytes w32 s ++ c.padding) (crc-append 0xffffffff lead (covered_bytes prev c))

-- one tag more at the front of a commit
abbrev pub led_by : Item → Commit → Commit
led_by t c = record { tags = t ∷ c.tags; closing = c.closing; padding = c.padding }

covered-more : (prev : ℕ) (t : Item) (c : Commit) (w : List ℕ) → w ≡ to_be_bytes w32 (bit_xor t.word prev)
    → covered_bytes prev (led_by t c) ≡ (w ++ t.content) ++ covered_bytes t.word c
unfolding tags_bytes last_word
covered-more prev t c w e =
    sym (ap (λ (x : List ℕ). x ++ t.content ++ tags_bytes t.word c.tags ++ to_be_bytes w32 (bit_xor c.closing (last_word t.word c.tags))) e)
    ∙ append_assoc (w ++ t.content) (tags_bytes t.word c.tags) (to_be_bytes w32 (bit_xor c.closing (last_word t.word c.tags)))

covered-last : (prev closing : ℕ) (padding : List ℕ) → covered_bytes prev (record { tags = []; closing = closing; padding = padding })
    ≡ to_be_bytes w32 (bit_xor closing prev)
unfolding tags_bytes last_word
covered-last prev closing padding = refl

-- its checksum goes on over what is behind the tag
sealed-more : (sum prev : ℕ) (t : Item) (c : Commit) (w : List ℕ) → w ≡ to_be_bytes w32 (bit_xor t.word prev)
    → sealed sum prev (led_by t c) ≡ (w ++ t.content) ++ sealed (crc (crc sum w) t.content) t.word c
sealed-more sum prev t c w e =
    let front : List ℕ = w ++ t.content in
    let covered : List ℕ = covered_bytes t.word c in
    let sums : crc sum (front ++ covered) ≡ crc (crc (crc sum w) t.content) covered =
    crc-append sum front covered ∙ ap (λ (s : ℕ). crc s covered) (crc-append sum w t.content) in
    ap (λ (x : List ℕ). x ++ to_le_bytes w32 (crc sum x) ++ c.padding) (covered-more prev t c w e)
    ∙ ap (λ (s : ℕ). (front ++ covered) ++ to_le_bytes w32 s ++ c.padding) sums
    ∙ ap (λ (x : List ℕ). x ++ c.padding) (append_assoc front covered (to_le_bytes w32 (crc (crc (crc sum w) t.content) covered)))
    ∙ append_assoc front (covered ++ to_le_bytes w32 (crc (crc (crc sum w) t.content) covered)) c.padding

-- a length that marks no deleted tag
pub plain_len : (n : ℕ) → n < 0x3ff → cond (eqb n 0x3ff) 0 n ≡ n
plain_len n h = let other : eqb n 0x3ff ≡ false = grind arith in ap (λ (b : Bool). cond b 0 n) other

-- ---- what is read is spelled so

pub record CommitTakes (sum prev : ℕ) (bytes : List ℕ) (r : CommitFront) : Type 0 where
  pub valid : IsCommit r.commit
  pub parts : bytes ≡ sealed sum prev r.commit ++ r.rest
  pub rest_bytes : IsBytes r.rest

closed_takes : (sum prev : ℕ) (bytes : List ℕ) (f : TagFront) (r : CommitFront) → TagTakes prev bytes f → main_kind f.item.word ≡ 5
    → closed (crc sum f.stored) f ≡ Some r → CommitTakes sum prev bytes r
unfolding closed
closed_takes sum prev bytes f r t kind e =
    let content : List ℕ = f.item.content in
    let found : CommitFront = record { commit = record { tags = []; closing = f.item.word; padding = drop 4 content }; rest = f.rest } in
    let g = cond_some ((ltb (len_of f.item.word) 0x3ff && leb 4 (length content))
    && eqb (from_le_bytes w32 (take 4 content)) (crc sum f.stored)) found r e in
    let a = and_parts (ltb (len_of f.item.word) 0x3ff && leb 4 (length content))
    (eqb (from_le_bytes w32 (take 4 content)) (crc sum f.stored)) g.0 in
    let b = and_parts (ltb (len_of f.item.word) 0x3ff) (leb 4 (length content)) a.0 in
    let live : len_of f.item.word < 0x3ff = ltb-true _ _ b.0 in
    let long : 4 ≤ length content = leb-true _ _ b.1 in
    let value : from_le_bytes w32 (take 4 content) ≡ crc sum f.stored = eqb-true _ _ a.1 in
    let plain : data_len f.item.word ≡ len_of f.item.word = plain_len (len_of f.item.word) live in
    let front : to_le_bytes w32 (crc sum f.stored) ≡ take 4 content = le_bytes_4 (take 4 content) _ (omega (arith, length-take 4 content))
    (IsBytes-take 4 content t.content_bytes) (sym value) in
    let complete : content ≡ to_le_bytes w32 (crc sum f.stored) ++ drop 4 content =
    sym (take-append-drop 4 content) ∙ ap (λ (x : List ℕ). x ++ drop 4 content) (sym front) in
    let regroup : (f.stored ++ (to_le_bytes w32 (crc sum f.stored) ++ drop 4 content)) ++ f.rest
    ≡ (f.stored ++ to_le_bytes w32 (crc sum f.stored) ++ drop 4 content) ++ f.rest =
    ap (λ (x : List ℕ). x ++ f.rest) (sym (append_assoc f.stored (to_le_bytes w32 (crc sum f.stored)) (drop 4 content))) in
    let same : covered_bytes prev found.commit ≡ f.stored = covered-last prev f.item.word (drop 4 content) ∙ sym t.stored in
    let all : CommitTakes sum prev bytes found = record {
      valid = record {
        tags = tt;
        valid = t.valid;
        kind = kind;
        not_deleted = live;
        padding = omega (arith, length-drop 4 content, t.len, plain);
      };
      parts = t.parts ∙ ap (λ (x : List ℕ). f.stored ++ x ++ f.rest) complete ∙ regroup
          ∙ ap (λ (x : List ℕ). (x ++ to_le_bytes w32 (crc sum x) ++ drop 4 content) ++ f.rest) (sym same);
      rest_bytes = t.rest_bytes;
    } in
    subst (CommitTakes sum prev bytes) g.1 all

abbrev Reader : Type 0
Reader = ℕ → ℕ → List ℕ → Option CommitFront

-- a reader that reads what is spelled so
abbrev Takes : Reader → Type 0
Takes read = (sum prev : ℕ) (bytes : List ℕ) (r : CommitFront) → IsBytes bytes → read sum prev bytes ≡ Some r → CommitTakes sum prev bytes r

step_takes-tag : (read : Reader) → Takes read → (sum prev : ℕ) (bytes : List ℕ) (f : TagFront) (r : CommitFront) → TagTakes prev bytes f
    → (b : Bool) → eqb (main_kind f.item.word) 5 ≡ b
    → cond b (closed (crc sum f.stored) f) (option_map (with_tag f.item) (read (crc (crc sum f.stored) f.item.content) f.item.word f.rest))
    ≡ Some r
    → CommitTakes sum prev bytes r
step_takes-tag read takes sum prev bytes f r t true k d = closed_takes sum prev bytes f r t (eqb-true _ _ k) d
step_takes-tag read takes sum prev bytes f r t false k d =
    let m = map_some (with_tag f.item) (read (crc (crc sum f.stored) f.item.content) f.item.word f.rest) r d in
    let q : CommitFront = m.0 in
    let below = takes (crc (crc sum f.stored) f.item.content) f.item.word f.rest q t.rest_bytes m.1 in
    let front : List ℕ = f.stored ++ f.item.content in
    let inner : List ℕ = sealed (crc (crc sum f.stored) f.item.content) f.item.word q.commit in
    let ne : main_kind f.item.word ≢ 5 = λ x. let y : eqb (main_kind f.item.word) 5 ≡ true = eq-eqb _ _ x in absurd (cc (y, k)) in
    let all : CommitTakes sum prev bytes (with_tag f.item q) = record {
      valid = record {
        tags = (record { valid = t.valid; kind = ne; content = t.len }, below.valid.tags);
        valid = below.valid.valid;
        kind = below.valid.kind;
        not_deleted = below.valid.not_deleted;
        padding = below.valid.padding;
      };
      parts = t.parts ∙ ap (λ (x : List ℕ). front ++ x) below.parts ∙ sym (append_assoc front inner q.rest)
          ∙ ap (λ (x : List ℕ). x ++ q.rest) (sym (sealed-more sum prev f.item q.commit f.stored t.stored));
      rest_bytes = below.rest_bytes;
    } in
    subst (CommitTakes sum prev bytes) m.2 all

step_takes : (read : Reader) → Takes read → (sum prev : ℕ) (bytes : List ℕ) (r : CommitFront) → IsBytes bytes
    → (o : Option TagFront) → tag_at prev bytes ≡ o → commit_step is_checksum read sum o ≡ Some r → CommitTakes sum prev bytes r
step_takes read takes sum prev bytes r h None k d = absurd cc
step_takes read takes sum prev bytes r h (Some f) k d =
    step_takes-tag read takes sum prev bytes f r (tag_takes prev bytes f h k) (eqb (main_kind f.item.word) 5) refl d

commit_takes-within : (n sum prev : ℕ) (bytes : List ℕ) (r : CommitFront) → IsBytes bytes → commit_within is_checksum n sum prev bytes ≡ Some r
    → CommitTakes sum prev bytes r
unfolding commit_within
commit_takes-within zero sum prev bytes r h e = absurd cc
commit_takes-within (suc n) sum prev bytes r h e =
    step_takes (commit_within is_checksum n) (λ s p b q k d. commit_takes-within n s p b q k d) sum prev bytes r h (tag_at prev bytes) refl e

pub commit_takes : (sum prev : ℕ) (bytes : List ℕ) (r : CommitFront) → IsBytes bytes → commit_at sum prev bytes ≡ Some r
    → CommitTakes sum prev bytes r
unfolding commit_by
commit_takes sum prev bytes r h e = commit_takes-within (suc (length bytes)) sum prev bytes r h e

-- ---- what is spelled so is read

closed-again : (sum : ℕ) (f : TagFront) → len_of f.item.word < 0x3ff → 4 ≤ length f.item.content
    → from_le_bytes w32 (take 4 f.item.content) ≡ sum
    → closed sum f ≡ Some (record { commit = record { tags = []; closing = f.item.word; padding = drop 4 f.item.content }; rest = f.rest })
unfolding closed
closed-again sum f live long value =
    let made : Option CommitFront = Some (record {
      commit = record { tags = []; closing = f.item.word; padding = drop 4 f.item.content };
      rest = f.rest;
    }) in
    let a : ltb (len_of f.item.word) 0x3ff ≡ true = lt-ltb _ _ live in
    let b : leb 4 (length f.item.content) ≡ true = le-leb _ _ long in
    let d : eqb (from_le_bytes w32 (take 4 f.item.content)) sum ≡ true = eq-eqb _ _ value in
    ap (λ (x : Bool). cond ((x && leb 4 (length f.item.content)) && eqb (from_le_bytes w32 (take 4 f.item.content)) sum) made None) a
    ∙ ap (λ (x : Bool). cond (x && eqb (from_le_bytes w32 (take 4 f.item.content)) sum) made None) b
    ∙ ap (λ (x : Bool). cond x made None) d

-- the tag of a checksum, with its data
abbrev pub closing_item : ℕ → ℕ → List ℕ → Item
closing_item sum closing padding = record { word = closing; content = to_le_bytes w32 sum ++ padding }

pub closing_len : (c : Commit) (sum : ℕ) → IsCommit c → length (closing_item sum c.closing c.padding).content ≡ data_len c.closing
closing_len c sum h =
    let plain : data_len c.closing ≡ len_of c.closing = plain_len (len_of c.closing) h.not_deleted in
    omega (arith, h.padding, plain)

-- a commit with no tags is its closing tag
pub sealed-last : (sum prev : ℕ) (c : Commit) → c.tags ≡ []
    → sealed sum prev c ≡ to_be_bytes w32 (bit_xor c.closing prev) ++ (closing_item
    (crc sum (to_be_bytes w32 (bit_xor c.closing prev))) c.closing c.padding).content
sealed-last sum prev c e =
    let w : List ℕ = to_be_bytes w32 (bit_xor c.closing prev) in
    ap (λ (ts : List Item). sealed sum prev (record { tags = ts; closing = c.closing; padding = c.padding })) e
    ∙ ap (λ (x : List ℕ). x ++ to_le_bytes w32 (crc sum x) ++ c.padding) (covered-last prev c.closing c.padding)
    ∙ append_assoc w (to_le_bytes w32 (crc sum w)) c.padding

pub sealed-first : (sum prev : ℕ) (t : Item) (c : Commit)
    → sealed sum prev (led_by t c) ≡ (to_be_bytes w32 (bit_xor t.word prev) ++ t.content)
    ++ sealed (crc (crc sum (to_be_bytes w32 (bit_xor t.word prev))) t.content) t.word c
sealed-first sum prev t c = sealed-more sum prev t c (to_be_bytes w32 (bit_xor t.word prev)) refl

last_again : (sum prev : ℕ) (c : Commit) (more : List ℕ) → IsCommit c → c.tags ≡ [] → sum < 2 ^ 32 → prev < 2 ^ 32
    → IsBytes (sealed sum prev c ++ more)
    → commit_at sum prev (sealed sum prev c ++ more) ≡ Some (record {
      commit =
          record { tags = []; closing = c.closing; padding = c.padding };
      rest = more;
    })
last_again sum prev c more h e small low fits =
    let w : List ℕ = to_be_bytes w32 (bit_xor c.closing prev) in
    let s : ℕ = crc sum w in
    let t : Item = closing_item s c.closing c.padding in
    let f : TagFront = record { stored = w; item = t; rest = more } in
    let complete : sealed sum prev c ++ more ≡ w ++ t.content ++ more = ap (λ (x : List ℕ). x ++ more) (sealed-last sum prev c e) in
    let front : IsBytes (w ++ t.content) = IsBytes-front (w ++ t.content) more (subst IsBytes complete fits) in
    let below : s < 2 ^ 32 = crc-below sum w small (IsBytes-front w t.content front) in
    let read : tag_at prev (w ++ t.content ++ more) ≡ Some f = tag_again prev t more low h.valid (closing_len c s h) in
    ap (commit_at sum prev) complete
    ∙ commit_at-closed sum prev (w ++ t.content ++ more) f read h.kind
    ∙ closed-again s f h.not_deleted (omega arith) (from_le_bytes-to_le_bytes_4 s below)

commit_again-tags : (ts : List Item) (closing : ℕ) (padding : List ℕ) (sum prev : ℕ) (more : List ℕ)
    → IsCommit (record { tags = ts; closing = closing; padding = padding }) → sum < 2 ^ 32 → prev < 2 ^ 32
    → IsBytes (sealed sum prev (record { tags = ts; closing = closing; padding = padding }) ++ more)
    → commit_at sum prev (sealed sum prev (record { tags = ts; closing = closing; padding = padding }) ++ more)
    ≡ Some (record { commit = record { tags = ts; closing = closing; padding = padding }; rest = more })
commit_again-tags [] closing padding sum prev more h small low fits =
    last_again sum prev (record { tags = []; closing = closing; padding = padding }) more h refl small low fits
commit_again-tags (t ∷ ts) closing padding sum prev more h small low fits =
    let c : Commit = record { tags = ts; closing = closing; padding = padding } in
    let w : List ℕ = to_be_bytes w32 (bit_xor t.word prev) in
    let front : List ℕ = w ++ t.content in
    let s : ℕ = crc (crc sum w) t.content in
    let inner : List ℕ = sealed s t.word c in
    let complete : sealed sum prev (led_by t c) ++ more ≡ front ++ (inner ++ more) =
    ap (λ (x : List ℕ). x ++ more) (sealed-first sum prev t c) ∙ append_assoc front inner more in
    let all : IsBytes (front ++ (inner ++ more)) = subst IsBytes complete fits in
    let ahead : IsBytes front = IsBytes-front front (inner ++ more) all in
    let item : IsItem t = h.tags.0 in
    let sums : s < 2 ^ 32 = crc-below (crc sum w) t.content (crc-below sum w small (IsBytes-front w t.content ahead))
    (IsBytes-back w t.content ahead) in
    let f : TagFront = record { stored = w; item = t; rest = inner ++ more } in
    let read : tag_at prev (front ++ (inner ++ more)) ≡ Some f = tag_again prev t (inner ++ more) low item.valid item.content in
    let rest : IsCommit c = record { tags = h.tags.1; valid = h.valid; kind = h.kind; not_deleted = h.not_deleted; padding = h.padding } in
    ap (commit_at sum prev) complete
    ∙ commit_at-more sum prev (front ++ (inner ++ more)) f read item.kind
    ∙ ap (option_map (with_tag t)) (commit_again-tags ts closing padding s t.word more rest sums (omega (arith, item.valid))
    (IsBytes-back front (inner ++ more) all))

pub commit_again : (sum prev : ℕ) (c : Commit) (more : List ℕ) → IsCommit c → sum < 2 ^ 32 → prev < 2 ^ 32
    → IsBytes (sealed sum prev c ++ more)
    → commit_at sum prev (sealed sum prev c ++ more) ≡ Some (record { commit = c; rest = more })
commit_again sum prev c more h small low fits = commit_again-tags c.tags c.closing c.padding sum prev more h small low fits
