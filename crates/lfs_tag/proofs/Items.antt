-- The tags that are read are valid, no checksums', and have as much data as they say.
use Rattle.std.proofs.Common.{◌≡◌, ◌≢◌, ℕ, zero, suc, ◌^◌, ◌<◌, ◌≤◌, Bool, true, false, cond, ltb, leb, eqb, ◌&&◌, List, ◌∷◌, length, take}
use Rattle.std.proofs.Common.{drop, Option, Some, None, refl, subst, arith, bit_xor, eq-eqb}
use Rattle.std.specs.Int.{w32, from_be_bytes}
use Rattle.std.specs.List.{AllByRecursion}
use Rattle.std.proofs.lemmas.Bool.{ltb-true, leb-true, and_parts}
use Rattle.std.proofs.lemmas.List.{length-take}
use Rattle.std.proofs.lemmas.Option.{cond_some}
use Rattle.lfs_tag.specs.Tag.{main_kind, data_len}
use Rattle.lfs_tag.specs.Commit.{Item, IsItem, word_after}
use Rattle.lfs_tag.specs.Reading.{TagFront, tag_behind, tag_at, tags_step, tags_within, tags_at}
use Rattle.lfs_tag.proofs.Steps.{guard_none}

record IsValid (f : TagFront) : Type 0 where
  valid : f.item.word < 2 ^ 31
  len : length f.item.content ≡ data_len f.item.word

tag_at-valid : (prev : ℕ) (bytes : List ℕ) (f : TagFront) → tag_at prev bytes ≡ Some f → IsValid f
unfolding tag_at
tag_at-valid prev bytes f e =
    let word : ℕ = bit_xor (from_be_bytes w32 (take 4 bytes)) prev in
    let behind : List ℕ = drop 4 bytes in
    let a = guard_none (ltb (length bytes) 4) (tag_behind (take 4 bytes) word behind) f e in
    let found : TagFront = record {
      stored = take 4 bytes;
      item = record { word = word; content = take (data_len word) behind };
      rest = drop (data_len word) behind;
    } in
    let b = cond_some (ltb word (2 ^ 31) && leb (data_len word) (length behind)) found f a.1 in
    let t = and_parts (ltb word (2 ^ 31)) (leb (data_len word) (length behind)) b.0 in
    let fits : data_len word ≤ length behind = leb-true _ _ t.1 in
    let all : IsValid found = record { valid = ltb-true _ _ t.0; len = omega (arith, length-take (data_len word) behind) } in
    subst IsValid b.1 all

abbrev Reader : Type 0
Reader = ℕ → List ℕ → List Item

step_items-tag : (read : Reader) → ((p : ℕ) (b : List ℕ) → AllByRecursion IsItem (read p b)) → (f : TagFront) → IsValid f
    → (b : Bool) → eqb (main_kind f.item.word) 5 ≡ b
    → AllByRecursion IsItem (cond b (read (word_after f.item.word) f.rest) (f.item ∷ read f.item.word f.rest))
step_items-tag read h f v true e = h (word_after f.item.word) f.rest
step_items-tag read h f v false e =
    let other : main_kind f.item.word ≢ 5 = λ x. let y : eqb (main_kind f.item.word) 5 ≡ true = eq-eqb _ _ x in absurd (cc (y, e)) in
    (record { valid = v.valid; kind = other; content = v.len }, h f.item.word f.rest)

step_items : (read : Reader) → ((p : ℕ) (b : List ℕ) → AllByRecursion IsItem (read p b)) → (prev : ℕ) (bytes : List ℕ)
    → (o : Option TagFront) → tag_at prev bytes ≡ o → AllByRecursion IsItem (tags_step read o)
step_items read h prev bytes None e = tt
step_items read h prev bytes (Some f) e = step_items-tag read h f (tag_at-valid prev bytes f e) (eqb (main_kind f.item.word) 5) refl

tags_within-items : (n prev : ℕ) (bytes : List ℕ) → AllByRecursion IsItem (tags_within n prev bytes)
unfolding tags_within
tags_within-items zero prev bytes = tt
tags_within-items (suc n) prev bytes = step_items (tags_within n) (tags_within-items n) prev bytes (tag_at prev bytes) refl

pub tags_at-items : (prev : ℕ) (bytes : List ℕ) → AllByRecursion IsItem (tags_at prev bytes)
unfolding tags_at
tags_at-items prev bytes = tags_within-items (suc (length bytes)) prev bytes
