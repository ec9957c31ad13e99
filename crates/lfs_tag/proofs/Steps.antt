-- The reading functions without their bounds: each reads one thing more, and the rest is read by itself.
use Rattle.std.proofs.Common.{◌≡◌, ◌≢◌, ℕ, zero, suc, ◌+◌, ◌^◌, ◌<◌, ◌≤◌, Bool, true, false, cond, ltb, leb, eqb, ◌&&◌, List, [], ◌∷◌, ◌++◌}
use Rattle.std.proofs.Common.{length, take, drop, Option, Some, None, option_map, refl, sym, ap, ◌∙◌, arith, bit_xor, eq-eqb}
use Rattle.std.specs.Int.{w32, from_be_bytes}
use Rattle.std.proofs.lemmas.Bool.{ltb-false}
use Rattle.std.proofs.lemmas.List.{take-append-drop, length-take, length-append}
use Rattle.std.proofs.lemmas.Option.{cond_some}
use Rattle.lfs_block.specs.Checksum.{crc}
use Rattle.lfs_tag.specs.Tag.{main_kind, data_len}
use Rattle.lfs_tag.specs.Commit.{Item, word_after, next_word}
use Rattle.lfs_tag.specs.Reading.{TagFront, tag_behind, tag_at, CommitFront, with_tag, closed, commit_step, commit_within, commit_by}
use Rattle.lfs_tag.specs.Reading.{is_checksum, commit_at, Front, with_commit, log_step, log_within, log_by, log_from, tags_step, tags_within, tags_at}

pub guard_none : {A : Type 0} (b : Bool) (o : Option A) (y : A) → cond b None o ≡ Some y → (b ≡ false) × (o ≡ Some y)
guard_none true o y e = absurd cc
guard_none false o y e = (refl, e)

pub map_some : {A B : Type 0} (f : A → B) (o : Option A) (y : B) → option_map f o ≡ Some y → (x : A) × (o ≡ Some x) × (f x ≡ y)
map_some f None y e = absurd cc
map_some f (Some x) y e = (x, refl, cc)

pub kind_test : (k : ℕ) → k ≢ 5 → eqb k 5 ≡ false
kind_test k h = grind arith

-- the tag's word, its data and the rest are the bytes
pub record TagCut (bytes : List ℕ) (f : TagFront) : Type 0 where
  pub parts : bytes ≡ f.stored ++ (f.item.content ++ f.rest)
  pub len : length f.stored ≡ 4

pub tag_cut : (prev : ℕ) (bytes : List ℕ) (f : TagFront) → tag_at prev bytes ≡ Some f → TagCut bytes f
unfolding tag_at
tag_cut prev bytes f e =
    let word : ℕ = bit_xor (from_be_bytes w32 (take 4 bytes)) prev in
    let behind : List ℕ = drop 4 bytes in
    let n : ℕ = data_len word in
    let found : TagFront = record { stored = take 4 bytes; item = record { word = word; content = take n behind }; rest = drop n behind } in
    let a = guard_none (ltb (length bytes) 4) (tag_behind (take 4 bytes) word behind) f e in
    let long : 4 ≤ length bytes = ltb-false _ _ a.0 in
    let b = cond_some (ltb word (2 ^ 31) && leb n (length behind)) found f a.1 in
    let cut : take 4 bytes ++ (take n behind ++ drop n behind) ≡ bytes =
    ap (λ (x : List ℕ). take 4 bytes ++ x) (take-append-drop n behind) ∙ take-append-drop 4 bytes in
    let four : length (take 4 bytes) ≡ 4 = omega (arith, length-take 4 bytes) in
    record {
      parts = sym cut ∙ ap (λ (g : TagFront). g.stored ++ (g.item.content ++ g.rest)) b.1;
      len = ap (λ (g : TagFront). length g.stored) (sym b.1) ∙ four;
    }

-- a tag takes four bytes or more
pub tag_at-shorter : (prev : ℕ) (bytes : List ℕ) (f : TagFront) → tag_at prev bytes ≡ Some f → length f.rest + 4 ≤ length bytes
tag_at-shorter prev bytes f e =
    let cut = tag_cut prev bytes f e in
    omega (arith, cut.len, ap length cut.parts, length-append f.stored (f.item.content ++ f.rest), length-append f.item.content f.rest)

-- ---- commits, where `closes` says which tags close them

commit_step-same : (closes : ℕ → Bool) (F G : ℕ → ℕ → List ℕ → Option CommitFront) (sum : ℕ) (o : Option TagFront)
    → ((f : TagFront) → o ≡ Some f → (s p : ℕ) → F s p f.rest ≡ G s p f.rest) → commit_step closes F sum o ≡ commit_step closes G sum o
commit_step-same closes F G sum None h = refl
commit_step-same closes F G sum (Some f) h =
    ap (λ (x : Option CommitFront). cond (closes f.item.word) (closed (crc sum f.stored) f) (option_map (with_tag f.item) x))
    (h f refl (crc (crc sum f.stored) f.item.content) f.item.word)

commit_enough : (closes : ℕ → Bool) (n m sum prev : ℕ) (bytes : List ℕ) → length bytes < n → length bytes < m
    → commit_within closes n sum prev bytes ≡ commit_within closes m sum prev bytes
unfolding commit_within
commit_enough closes zero m sum prev bytes a b = absurd (omega arith)
commit_enough closes (suc n) zero sum prev bytes a b = absurd (omega arith)
commit_enough closes (suc n) (suc m) sum prev bytes a b =
    commit_step-same closes (commit_within closes n) (commit_within closes m) sum (tag_at prev bytes)
    (λ f e s p. let k = tag_at-shorter prev bytes f e in commit_enough closes n m s p f.rest (omega arith) (omega arith))

pub commit_by-step : (closes : ℕ → Bool) (sum prev : ℕ) (bytes : List ℕ)
    → commit_by closes sum prev bytes ≡ commit_step closes (commit_by closes) sum (tag_at prev bytes)
unfolding commit_by commit_within
commit_by-step closes sum prev bytes =
    commit_step-same closes (commit_within closes (length bytes)) (commit_by closes) sum (tag_at prev bytes)
    (λ f e s p. let k = tag_at-shorter prev bytes f e in commit_enough closes (length bytes) (suc (length f.rest)) s p f.rest (omega arith)
    (omega arith))

pub commit_by-none : (closes : ℕ → Bool) (sum prev : ℕ) (bytes : List ℕ) → tag_at prev bytes ≡ None → commit_by closes sum prev bytes ≡ None
commit_by-none closes sum prev bytes e = commit_by-step closes sum prev bytes ∙ ap (commit_step closes (commit_by closes) sum) e

pub commit_by-closed : (closes : ℕ → Bool) (sum prev : ℕ) (bytes : List ℕ) (f : TagFront) → tag_at prev bytes ≡ Some f
    → closes f.item.word ≡ true → commit_by closes sum prev bytes ≡ closed (crc sum f.stored) f
commit_by-closed closes sum prev bytes f e k =
    commit_by-step closes sum prev bytes ∙ ap (commit_step closes (commit_by closes) sum) e
    ∙ ap (λ (b : Bool). cond b (closed (crc sum f.stored) f) (option_map (with_tag f.item)
    (commit_by closes (crc (crc sum f.stored) f.item.content) f.item.word f.rest))) k

pub commit_by-more : (closes : ℕ → Bool) (sum prev : ℕ) (bytes : List ℕ) (f : TagFront) → tag_at prev bytes ≡ Some f
    → closes f.item.word ≡ false → commit_by closes sum prev bytes
    ≡ option_map (with_tag f.item) (commit_by closes (crc (crc sum f.stored) f.item.content) f.item.word f.rest)
commit_by-more closes sum prev bytes f e k =
    commit_by-step closes sum prev bytes ∙ ap (commit_step closes (commit_by closes) sum) e
    ∙ ap (λ (b : Bool). cond b (closed (crc sum f.stored) f) (option_map (with_tag f.item)
    (commit_by closes (crc (crc sum f.stored) f.item.content) f.item.word f.rest))) k

-- ---- commits of version 2.0

pub commit_at-none : (sum prev : ℕ) (bytes : List ℕ) → tag_at prev bytes ≡ None → commit_at sum prev bytes ≡ None
commit_at-none = commit_by-none is_checksum

pub commit_at-closed : (sum prev : ℕ) (bytes : List ℕ) (f : TagFront) → tag_at prev bytes ≡ Some f → main_kind f.item.word ≡ 5
    → commit_at sum prev bytes ≡ closed (crc sum f.stored) f
commit_at-closed sum prev bytes f e k = commit_by-closed is_checksum sum prev bytes f e (eq-eqb _ _ k)

pub commit_at-more : (sum prev : ℕ) (bytes : List ℕ) (f : TagFront) → tag_at prev bytes ≡ Some f → main_kind f.item.word ≢ 5
    → commit_at sum prev bytes ≡ option_map (with_tag f.item) (commit_at (crc (crc sum f.stored) f.item.content) f.item.word f.rest)
commit_at-more sum prev bytes f e k = commit_by-more is_checksum sum prev bytes f e (kind_test _ k)

-- ---- logs

closed-rest : (sum : ℕ) (f : TagFront) (r : CommitFront) → closed sum f ≡ Some r → r.rest ≡ f.rest
unfolding closed
closed-rest sum f r e =
    ap (λ (x : CommitFront). x.rest) (sym (cond_some _ (record {
      commit =
          record { tags = []; closing = f.item.word; padding = drop 4 f.item.content };
      rest = f.rest;
    }) r e).1)

commit_step-shorter : (closes : ℕ → Bool) (F : ℕ → ℕ → List ℕ → Option CommitFront) (sum : ℕ) (o : Option TagFront) (r : CommitFront)
    (bound : ℕ) → ((f : TagFront) → o ≡ Some f → length f.rest < bound)
    → ((f : TagFront) → o ≡ Some f → (s p : ℕ) (q : CommitFront) → F s p f.rest ≡ Some q → length q.rest < bound)
    → commit_step closes F sum o ≡ Some r → length r.rest < bound
commit_step-shorter closes F sum None r bound h k e = absurd cc
commit_step-shorter closes F sum (Some f) r bound h k e =
    by_test (closes f.item.word) e
  where
    by_test : (b : Bool) → cond b (closed (crc sum f.stored) f) (option_map (with_tag f.item)
        (F (crc (crc sum f.stored) f.item.content) f.item.word f.rest)) ≡ Some r → length r.rest < bound
    by_test true d = rw (closed-rest (crc sum f.stored) f r d) (h f refl)
    by_test false d =
        let m = map_some (with_tag f.item) (F (crc (crc sum f.stored) f.item.content) f.item.word f.rest) r d in
        let below = k f refl (crc (crc sum f.stored) f.item.content) f.item.word m.0 m.1 in
        rw (← m.2) below

commit_within-shorter : (closes : ℕ → Bool) (n sum prev : ℕ) (bytes : List ℕ) (r : CommitFront)
    → commit_within closes n sum prev bytes ≡ Some r → length r.rest < length bytes
unfolding commit_within
commit_within-shorter closes zero sum prev bytes r e = absurd cc
commit_within-shorter closes (suc n) sum prev bytes r e =
    commit_step-shorter closes (commit_within closes n) sum (tag_at prev bytes) r (length bytes)
    (λ f t. let k = tag_at-shorter prev bytes f t in omega arith)
    (λ f t s p q d. let k = tag_at-shorter prev bytes f t in omega (arith, commit_within-shorter closes n s p f.rest q d))
    e

pub commit_by-shorter : (closes : ℕ → Bool) (sum prev : ℕ) (bytes : List ℕ) (r : CommitFront) → commit_by closes sum prev bytes ≡ Some r
    → length r.rest < length bytes
unfolding commit_by
commit_by-shorter closes sum prev bytes r e = commit_within-shorter closes (suc (length bytes)) sum prev bytes r e

pub commit_at-shorter : (sum prev : ℕ) (bytes : List ℕ) (r : CommitFront) → commit_at sum prev bytes ≡ Some r → length r.rest < length bytes
commit_at-shorter = commit_by-shorter is_checksum

log_step-same : (F G : ℕ → ℕ → List ℕ → Front) (prev : ℕ) (bytes : List ℕ) (o : Option CommitFront)
    → ((r : CommitFront) → o ≡ Some r → (s p : ℕ) → F s p r.rest ≡ G s p r.rest) → log_step F prev bytes o ≡ log_step G prev bytes o
log_step-same F G prev bytes None h = refl
log_step-same F G prev bytes (Some r) h = ap (with_commit r.commit) (h r refl 0xffffffff (next_word r.commit))

log_enough : (closes : ℕ → Bool) (n m sum prev : ℕ) (bytes : List ℕ) → length bytes < n → length bytes < m
    → log_within closes n sum prev bytes ≡ log_within closes m sum prev bytes
unfolding log_within
log_enough closes zero m sum prev bytes a b = absurd (omega arith)
log_enough closes (suc n) zero sum prev bytes a b = absurd (omega arith)
log_enough closes (suc n) (suc m) sum prev bytes a b =
    log_step-same (log_within closes n) (log_within closes m) prev bytes (commit_by closes sum prev bytes)
    (λ r e s p. let k = commit_by-shorter closes sum prev bytes r e in log_enough closes n m s p r.rest (omega arith) (omega arith))

pub log_by-step : (closes : ℕ → Bool) (sum prev : ℕ) (bytes : List ℕ)
    → log_by closes sum prev bytes ≡ log_step (log_by closes) prev bytes (commit_by closes sum prev bytes)
unfolding log_by log_within
log_by-step closes sum prev bytes =
    log_step-same (log_within closes (length bytes)) (log_by closes) prev bytes (commit_by closes sum prev bytes)
    (λ r e s p. let k = commit_by-shorter closes sum prev bytes r e in log_enough closes (length bytes) (suc (length r.rest)) s p r.rest
    (omega arith) (omega arith))

pub log_by-none : (closes : ℕ → Bool) (sum prev : ℕ) (bytes : List ℕ) → commit_by closes sum prev bytes ≡ None
    → log_by closes sum prev bytes ≡ record { commits = []; last = prev; rest = bytes }
log_by-none closes sum prev bytes e = log_by-step closes sum prev bytes ∙ ap (log_step (log_by closes) prev bytes) e

pub log_by-more : (closes : ℕ → Bool) (sum prev : ℕ) (bytes : List ℕ) (r : CommitFront) → commit_by closes sum prev bytes ≡ Some r
    → log_by closes sum prev bytes ≡ with_commit r.commit (log_by closes 0xffffffff (next_word r.commit) r.rest)
log_by-more closes sum prev bytes r e = log_by-step closes sum prev bytes ∙ ap (log_step (log_by closes) prev bytes) e

pub log_from-none : (sum prev : ℕ) (bytes : List ℕ) → commit_at sum prev bytes ≡ None
    → log_from sum prev bytes ≡ record { commits = []; last = prev; rest = bytes }
log_from-none = log_by-none is_checksum

pub log_from-more : (sum prev : ℕ) (bytes : List ℕ) (r : CommitFront) → commit_at sum prev bytes ≡ Some r
    → log_from sum prev bytes ≡ with_commit r.commit (log_from 0xffffffff (next_word r.commit) r.rest)
log_from-more = log_by-more is_checksum

-- ---- the tags of a log

tags_step-same : (F G : ℕ → List ℕ → List Item) (o : Option TagFront)
    → ((f : TagFront) → o ≡ Some f → (p : ℕ) → F p f.rest ≡ G p f.rest) → tags_step F o ≡ tags_step G o
tags_step-same F G None h = refl
tags_step-same F G (Some f) h =
    ap (λ (x : List Item). cond (eqb (main_kind f.item.word) 5) x (f.item ∷ F f.item.word f.rest)) (h f refl (word_after f.item.word))
    ∙ ap (λ (x : List Item). cond (eqb (main_kind f.item.word) 5) (G (word_after f.item.word) f.rest) (f.item ∷ x)) (h f refl f.item.word)

tags_enough : (n m prev : ℕ) (bytes : List ℕ) → length bytes < n → length bytes < m → tags_within n prev bytes ≡ tags_within m prev bytes
unfolding tags_within
tags_enough zero m prev bytes a b = absurd (omega arith)
tags_enough (suc n) zero prev bytes a b = absurd (omega arith)
tags_enough (suc n) (suc m) prev bytes a b =
    tags_step-same (tags_within n) (tags_within m) (tag_at prev bytes)
    (λ f e p. let k = tag_at-shorter prev bytes f e in tags_enough n m p f.rest (omega arith) (omega arith))

pub tags_at-step : (prev : ℕ) (bytes : List ℕ) → tags_at prev bytes ≡ tags_step tags_at (tag_at prev bytes)
unfolding tags_at tags_within
tags_at-step prev bytes =
    tags_step-same (tags_within (length bytes)) tags_at (tag_at prev bytes)
    (λ f e p. let k = tag_at-shorter prev bytes f e in tags_enough (length bytes) (suc (length f.rest)) p f.rest (omega arith)
    (omega arith))

pub tags_at-none : (prev : ℕ) (bytes : List ℕ) → tag_at prev bytes ≡ None → tags_at prev bytes ≡ []
tags_at-none prev bytes e = tags_at-step prev bytes ∙ ap (tags_step tags_at) e

pub tags_at-closed : (prev : ℕ) (bytes : List ℕ) (f : TagFront) → tag_at prev bytes ≡ Some f → main_kind f.item.word ≡ 5
    → tags_at prev bytes ≡ tags_at (word_after f.item.word) f.rest
tags_at-closed prev bytes f e k =
    tags_at-step prev bytes ∙ ap (tags_step tags_at) e
    ∙ ap (λ (b : Bool). cond b (tags_at (word_after f.item.word) f.rest) (f.item ∷ tags_at f.item.word f.rest)) (eq-eqb _ _ k)

pub tags_at-more : (prev : ℕ) (bytes : List ℕ) (f : TagFront) → tag_at prev bytes ≡ Some f → main_kind f.item.word ≢ 5
    → tags_at prev bytes ≡ f.item ∷ tags_at f.item.word f.rest
tags_at-more prev bytes f e k =
    tags_at-step prev bytes ∙ ap (tags_step tags_at) e
    ∙ ap (λ (b : Bool). cond b (tags_at (word_after f.item.word) f.rest) (f.item ∷ tags_at f.item.word f.rest)) (kind_test _ k)
