-- What is read is spelled so, and what is spelled so is read.
use Rattle.std.proofs.Common.{◌≡◌, ℕ, ◌^◌, ◌<◌, ◌≤◌, Bool, true, false, cond, ltb, leb, ◌&&◌, List, [], ◌∷◌, ◌++◌, length, take, drop}
use Rattle.std.proofs.Common.{Some, None, refl, sym, ap, subst, ◌∙◌, append_assoc, arith, bit_xor}
use Rattle.std.specs.Int.{w32, from_be_bytes, to_be_bytes}
use Rattle.std.specs.Int.Bits.{xor_assoc, xor_self, xor_zero_r}
use Rattle.std.proofs.lemmas.Bool.{ltb-false, ltb-true, leb-true, le-ltb, lt-ltb, le-leb, and_parts}
use Rattle.std.proofs.lemmas.List.{take_at, drop_at, take-append-drop, length-append, length-take}
use Rattle.std.proofs.lemmas.Nat.{be_bytes_4, from_be_bytes-to_be_bytes_4, xor_lt}
use Rattle.std.proofs.lemmas.Option.{cond_some}
use Rattle.lfs_block.specs.Bytes.{IsBytes}
use Rattle.lfs_block.proofs.PutLemmas.{IsBytes-drop, IsBytes-take}
use Rattle.lfs_tag.specs.Tag.{data_len}
use Rattle.lfs_tag.specs.Commit.{Item}
use Rattle.lfs_tag.specs.Reading.{TagFront, tag_behind, tag_at}
use Rattle.lfs_tag.proofs.Steps.{guard_none}

pub IsBytes-front : (a b : List ℕ) → IsBytes (a ++ b) → IsBytes a
IsBytes-front a b h = subst IsBytes (take_at a b (length a) refl) (IsBytes-take (length a) (a ++ b) h)

pub IsBytes-back : (a b : List ℕ) → IsBytes (a ++ b) → IsBytes b
IsBytes-back a b h = subst IsBytes (drop_at a b (length a) refl) (IsBytes-drop (length a) (a ++ b) h)

-- the same word XORed twice
pub xor_twice : (a b : ℕ) → bit_xor (bit_xor a b) b ≡ a
xor_twice a b = xor_assoc a b b ∙ ap (bit_xor a) (xor_self b) ∙ xor_zero_r a

-- ---- tags

-- a tag that was read, as it is spelled
pub record TagTakes (prev : ℕ) (bytes : List ℕ) (f : TagFront) : Type 0 where
  pub parts : bytes ≡ f.stored ++ f.item.content ++ f.rest
  pub stored : f.stored ≡ to_be_bytes w32 (bit_xor f.item.word prev)
  pub valid : f.item.word < 2 ^ 31
  pub len : length f.item.content ≡ data_len f.item.word
  pub content_bytes : IsBytes f.item.content
  pub rest_bytes : IsBytes f.rest

pub tag_takes : (prev : ℕ) (bytes : List ℕ) (f : TagFront) → IsBytes bytes → tag_at prev bytes ≡ Some f → TagTakes prev bytes f
unfolding tag_at
tag_takes prev bytes f h e =
    let number : ℕ = from_be_bytes w32 (take 4 bytes) in
    let word : ℕ = bit_xor number prev in
    let n : ℕ = data_len word in
    let behind : List ℕ = drop 4 bytes in
    let a = guard_none (ltb (length bytes) 4) (tag_behind (take 4 bytes) word behind) f e in
    let long : 4 ≤ length bytes = ltb-false _ _ a.0 in
    let found : TagFront = record { stored = take 4 bytes; item = record { word = word; content = take n behind }; rest = drop n behind } in
    let b = cond_some (ltb word (2 ^ 31) && leb n (length behind)) found f a.1 in
    let t = and_parts (ltb word (2 ^ 31)) (leb n (length behind)) b.0 in
    let fits : n ≤ length behind = leb-true _ _ t.1 in
    let back : to_be_bytes w32 number ≡ take 4 bytes = be_bytes_4 (take 4 bytes) number (omega (arith, length-take 4 bytes))
    (IsBytes-take 4 bytes h) refl in
    let cut : take 4 bytes ++ take n behind ++ drop n behind ≡ bytes =
    append_assoc (take 4 bytes) (take n behind) (drop n behind) ∙ ap (λ (x : List ℕ). take 4 bytes ++ x) (take-append-drop n behind)
    ∙ take-append-drop 4 bytes in
    let all : TagTakes prev bytes found = record {
      parts = sym cut;
      stored = sym back ∙ ap (to_be_bytes w32) (sym (xor_twice number prev));
      valid = ltb-true _ _ t.0;
      len = omega (arith, length-take n behind);
      content_bytes = IsBytes-take n behind (IsBytes-drop 4 bytes h);
      rest_bytes = IsBytes-drop n behind (IsBytes-drop 4 bytes h);
    } in
    subst (TagTakes prev bytes) b.1 all

tag_cells : (prev a b c d : ℕ) (behind : List ℕ)
    → tag_at prev (a ∷ b ∷ c ∷ d ∷ behind) ≡ tag_behind (a ∷ b ∷ c ∷ d ∷ []) (bit_xor (from_be_bytes w32 (a ∷ b ∷ c ∷ d ∷ [])) prev) behind
unfolding tag_at
tag_cells prev a b c d behind =
    let long : ltb (length (a ∷ b ∷ c ∷ d ∷ behind)) 4 ≡ false = le-ltb _ _ (omega arith) in
    ap (λ (t : Bool). cond t None (tag_behind (a ∷ b ∷ c ∷ d ∷ []) (bit_xor (from_be_bytes w32 (a ∷ b ∷ c ∷ d ∷ [])) prev) behind)) long

tag_behind-again : (stored : List ℕ) (t : Item) (more : List ℕ) → t.word < 2 ^ 31 → length t.content ≡ data_len t.word
    → tag_behind stored t.word (t.content ++ more) ≡ Some (record { stored = stored; item = t; rest = more })
tag_behind-again stored t more valid len =
    let low : ltb t.word (2 ^ 31) ≡ true = lt-ltb _ _ valid in
    let fits : leb (data_len t.word) (length (t.content ++ more)) ≡ true = le-leb _ _ (omega (arith, length-append t.content more)) in
    let front : take (data_len t.word) (t.content ++ more) ≡ t.content = take_at t.content more (data_len t.word) len in
    let back : drop (data_len t.word) (t.content ++ more) ≡ more = drop_at t.content more (data_len t.word) len in
    ap (λ (b : Bool). cond (b && leb (data_len t.word) (length (t.content ++ more)))
    (Some (record {
      stored = stored;
      item = record { word = t.word; content = take (data_len t.word) (t.content ++ more) };
      rest = drop (data_len t.word) (t.content ++ more);
    })) None) low
    ∙ ap (λ (b : Bool). cond b (Some (record {
      stored = stored;
      item = record {
        word = t.word;
        content = take (data_len t.word) (t.content ++ more);
      };
      rest = drop (data_len t.word) (t.content ++ more);
    })) None) fits
    ∙ ap (λ (x : List ℕ). Some (record {
      stored = stored;
      item = record { word = t.word; content = x };
      rest = drop (data_len t.word) (t.content ++ more);
    })) front
    ∙ ap (λ (x : List ℕ). Some (record { stored = stored; item = t; rest = x })) back

pub tag_again : (prev : ℕ) (t : Item) (more : List ℕ) → prev < 2 ^ 32 → t.word < 2 ^ 31 → length t.content ≡ data_len t.word
    → tag_at prev (to_be_bytes w32 (bit_xor t.word prev) ++ t.content ++ more)
    ≡ Some (record { stored = to_be_bytes w32 (bit_xor t.word prev); item = t; rest = more })
tag_again prev t more small valid len =
    let number : ℕ = bit_xor t.word prev in
    let below : number < 2 ^ 32 = xor_lt 32 t.word prev (omega arith) small in
    let word : bit_xor (from_be_bytes w32 (to_be_bytes w32 number)) prev ≡ t.word =
    ap (λ (n : ℕ). bit_xor n prev) (from_be_bytes-to_be_bytes_4 number below) ∙ xor_twice t.word prev in
    tag_cells prev _ _ _ _ (t.content ++ more)
    ∙ ap (λ (w : ℕ). tag_behind (to_be_bytes w32 number) w (t.content ++ more)) word
    ∙ tag_behind-again (to_be_bytes w32 number) t more valid len
