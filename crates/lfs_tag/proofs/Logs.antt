-- A log that is read is spelled so, and one that is spelled so is read.
use Rattle.std.proofs.Common.{◌≡◌, ℕ, zero, suc, ◌^◌, ◌<◌, ◌≤◌, List, [], ◌∷◌, ◌++◌, length, take, drop, Option, Some, None, refl, sym, ap}
use Rattle.std.proofs.Common.{subst, ◌∙◌, append_assoc, arith, bit_xor}
use Rattle.std.specs.Int.{w32, to_be_bytes}
use Rattle.std.specs.List.{AllByRecursion}
use Rattle.std.proofs.lemmas.List.{take_at, drop_at, take-append-drop, length-take}
use Rattle.std.proofs.lemmas.List.Concat.{flat_map-cons}
use Rattle.lfs_block.specs.Checksum.{crc}
use Rattle.lfs_block.specs.Bytes.{IsBytes}
use Rattle.lfs_block.proofs.PutLemmas.{IsBytes-drop, IsBytes-take}
use Rattle.lfs_tag.specs.Commit.{Item, Commit, IsItem, IsCommit, commit_bytes, word_after, next_word}
use Rattle.lfs_tag.specs.Log.{commits_bytes, final_word, next_lead, IsLog, log_tags}
use Rattle.lfs_tag.specs.Reading.{TagFront, tag_at, CommitFront, commit_at, Front, with_commit, log_from, log_of, tags_at}
use Rattle.lfs_tag.proofs.Steps.{commit_at-shorter, log_from-none, log_from-more, tags_at-none, tags_at-closed, tags_at-more}
use Rattle.lfs_tag.proofs.Codec.{IsBytes-front, IsBytes-back, tag_again}
use Rattle.lfs_tag.proofs.Commits.{sealed, commit_bytes-sealed, led_by, CommitTakes, commit_takes, commit_again, closing_item, closing_len}
use Rattle.lfs_tag.proofs.Commits.{sealed-last, sealed-first}
use Rattle.lfs_tag.proofs.Sums.{crc-below}

-- commits one after another, where `sum` is the checksum of the first one's lead
unfoldable pub logged : ℕ → ℕ → List Commit → List ℕ
logged sum prev [] = []
logged sum prev (c ∷ cs) = sealed sum prev c ++ logged 0xffffffff (next_word c) cs

pub commits_bytes-logged : (lead : List ℕ) (prev : ℕ) (cs : List Commit) → commits_bytes lead prev cs ≡ logged (crc 0xffffffff lead) prev cs
unfolding commits_bytes logged
commits_bytes-logged lead prev [] = refl
commits_bytes-logged lead prev (c ∷ cs) =
    ap (λ (x : List ℕ). x ++ commits_bytes [] (next_word c) cs) (commit_bytes-sealed lead prev c)
    ∙ ap (λ (x : List ℕ). sealed (crc 0xffffffff lead) prev c ++ x) (commits_bytes-logged [] (next_word c) cs)

-- the checksum of the lead behind commits
abbrev pub sum_after : ℕ → List Commit → ℕ
sum_after sum [] = sum
sum_after sum (c ∷ cs) = 0xffffffff

pub sum_after-lead : (lead : List ℕ) (cs : List Commit) → crc 0xffffffff (next_lead lead cs) ≡ sum_after (crc 0xffffffff lead) cs
sum_after-lead lead [] = refl
sum_after-lead lead (c ∷ cs) = refl

sum_after-anew : (cs : List Commit) → sum_after 0xffffffff cs ≡ 0xffffffff
sum_after-anew [] = refl
sum_after-anew (c ∷ cs) = refl

pub next_word-below : (c : Commit) → IsCommit c → next_word c < 2 ^ 32
next_word-below c h = omega (arith, h.valid)

pub final_word-below : (cs : List Commit) (prev : ℕ) → AllByRecursion IsCommit cs → prev < 2 ^ 32 → final_word prev cs < 2 ^ 32
unfolding final_word
final_word-below [] prev h low = low
final_word-below (c ∷ cs) prev h low = final_word-below cs (next_word c) h.1 (next_word-below c h.0)

-- ---- what is read is spelled so

pub record LogTakes (sum prev : ℕ) (bytes : List ℕ) (f : Front) : Type 0 where
  pub each : AllByRecursion IsCommit f.commits
  pub parts : bytes ≡ logged sum prev f.commits ++ f.rest
  pub word : f.last ≡ final_word prev f.commits
  pub stop : commit_at (sum_after sum f.commits) f.last f.rest ≡ None
  pub rest_bytes : IsBytes f.rest

log_takes-none : (sum prev : ℕ) (bytes : List ℕ) → IsBytes bytes → commit_at sum prev bytes ≡ None
    → LogTakes sum prev bytes (log_from sum prev bytes)
unfolding logged final_word
log_takes-none sum prev bytes h e =
    let f : Front = record { commits = []; last = prev; rest = bytes } in
    let all : LogTakes sum prev bytes f = record { each = tt; parts = refl; word = refl; stop = e; rest_bytes = h } in
    subst (LogTakes sum prev bytes) (sym (log_from-none sum prev bytes e)) all

log_takes-more : (sum prev : ℕ) (bytes : List ℕ) (r : CommitFront) → commit_at sum prev bytes ≡ Some r → CommitTakes sum prev bytes r
    → LogTakes 0xffffffff (next_word r.commit) r.rest (log_from 0xffffffff (next_word r.commit) r.rest)
    → LogTakes sum prev bytes (log_from sum prev bytes)
unfolding logged final_word
log_takes-more sum prev bytes r e t below =
    let g : Front = log_from 0xffffffff (next_word r.commit) r.rest in
    let front : List ℕ = sealed sum prev r.commit in
    let all : LogTakes sum prev bytes (with_commit r.commit g) = record {
      each = (t.valid, below.each);
      parts = t.parts ∙ ap (λ (x : List ℕ). front ++ x) below.parts ∙ sym
          (append_assoc front (logged 0xffffffff (next_word r.commit) g.commits) g.rest);
      word = below.word;
      stop = ap (λ (s : ℕ). commit_at s g.last g.rest) (sym (sum_after-anew g.commits)) ∙ below.stop;
      rest_bytes = below.rest_bytes;
    } in
    subst (LogTakes sum prev bytes) (sym (log_from-more sum prev bytes r e)) all

log_takes-within : (n sum prev : ℕ) (bytes : List ℕ) → length bytes < n → IsBytes bytes
    → (o : Option CommitFront) → commit_at sum prev bytes ≡ o → LogTakes sum prev bytes (log_from sum prev bytes)
log_takes-within zero sum prev bytes few h o e = absurd (omega arith)
log_takes-within (suc n) sum prev bytes few h None e = log_takes-none sum prev bytes h e
log_takes-within (suc n) sum prev bytes few h (Some r) e =
    let t : CommitTakes sum prev bytes r = commit_takes sum prev bytes r h e in
    let k : length r.rest < length bytes = commit_at-shorter sum prev bytes r e in
    log_takes-more sum prev bytes r e t
    (log_takes-within n 0xffffffff (next_word r.commit) r.rest (omega arith) t.rest_bytes
    (commit_at 0xffffffff (next_word r.commit) r.rest) refl)

pub log_takes : (sum prev : ℕ) (bytes : List ℕ) → IsBytes bytes → LogTakes sum prev bytes (log_from sum prev bytes)
log_takes sum prev bytes h = log_takes-within (suc (length bytes)) sum prev bytes (omega arith) h (commit_at sum prev bytes) refl

-- ---- what is spelled so is read

pub log_again : (cs : List Commit) (sum prev : ℕ) (rest : List ℕ) → AllByRecursion IsCommit cs → sum < 2 ^ 32 → prev < 2 ^ 32
    → IsBytes (logged sum prev cs ++ rest)
    → commit_at (sum_after sum cs) (final_word prev cs) rest ≡ None
    → log_from sum prev (logged sum prev cs ++ rest) ≡ record { commits = cs; last = final_word prev cs; rest = rest }
unfolding logged final_word
log_again [] sum prev rest h small low fits stop = log_from-none sum prev rest stop
log_again (c ∷ cs) sum prev rest h small low fits stop =
    let front : List ℕ = sealed sum prev c in
    let behind : List ℕ = logged 0xffffffff (next_word c) cs ++ rest in
    let complete : (front ++ logged 0xffffffff (next_word c) cs) ++ rest ≡ front ++ behind =
    append_assoc front (logged 0xffffffff (next_word c) cs) rest in
    let all : IsBytes (front ++ behind) = subst IsBytes complete fits in
    let first : commit_at sum prev (front ++ behind) ≡ Some (record { commit = c; rest = behind }) =
    commit_again sum prev c behind h.0 small low all in
    let stops : commit_at (sum_after 0xffffffff cs) (final_word (next_word c) cs) rest ≡ None =
    ap (λ (s : ℕ). commit_at s (final_word (next_word c) cs) rest) (sum_after-anew cs) ∙ stop in
    ap (log_from sum prev) complete
    ∙ log_from-more sum prev (front ++ behind) (record { commit = c; rest = behind }) first
    ∙ ap (with_commit c) (log_again cs 0xffffffff (next_word c) rest h.1 (omega arith) (next_word-below c h.0)
    (IsBytes-back front behind all) stops)

-- ---- the tags of what is spelled

tags_again-last : (sum prev : ℕ) (c : Commit) (more : List ℕ) → IsCommit c → c.tags ≡ [] → prev < 2 ^ 32
    → tags_at prev (sealed sum prev c ++ more) ≡ tags_at (next_word c) more
tags_again-last sum prev c more h e low =
    let w : List ℕ = to_be_bytes w32 (bit_xor c.closing prev) in
    let s : ℕ = crc sum w in
    let t : Item = closing_item s c.closing c.padding in
    let f : TagFront = record { stored = w; item = t; rest = more } in
    let complete : sealed sum prev c ++ more ≡ w ++ t.content ++ more = ap (λ (x : List ℕ). x ++ more) (sealed-last sum prev c e) in
    ap (tags_at prev) complete
    ∙ tags_at-closed prev (w ++ t.content ++ more) f (tag_again prev t more low h.valid (closing_len c s h)) h.kind

tags_again-tags : (ts : List Item) (closing : ℕ) (padding : List ℕ) (sum prev : ℕ) (more : List ℕ)
    → IsCommit (record { tags = ts; closing = closing; padding = padding }) → prev < 2 ^ 32
    → tags_at prev (sealed sum prev (record { tags = ts; closing = closing; padding = padding }) ++ more)
    ≡ ts ++ tags_at (word_after closing) more
tags_again-tags [] closing padding sum prev more h low = tags_again-last sum prev
    (record { tags = []; closing = closing; padding = padding }) more h refl low
tags_again-tags (t ∷ ts) closing padding sum prev more h low =
    let c : Commit = record { tags = ts; closing = closing; padding = padding } in
    let w : List ℕ = to_be_bytes w32 (bit_xor t.word prev) in
    let front : List ℕ = w ++ t.content in
    let s : ℕ = crc (crc sum w) t.content in
    let inner : List ℕ = sealed s t.word c in
    let complete : sealed sum prev (led_by t c) ++ more ≡ front ++ (inner ++ more) =
    ap (λ (x : List ℕ). x ++ more) (sealed-first sum prev t c) ∙ append_assoc front inner more in
    let item : IsItem t = h.tags.0 in
    let f : TagFront = record { stored = w; item = t; rest = inner ++ more } in
    let rest : IsCommit c = record { tags = h.tags.1; valid = h.valid; kind = h.kind; not_deleted = h.not_deleted; padding = h.padding } in
    ap (tags_at prev) complete
    ∙ tags_at-more prev (front ++ (inner ++ more)) f (tag_again prev t (inner ++ more) low item.valid item.content) item.kind
    ∙ ap (λ (x : List Item). t ∷ x) (tags_again-tags ts closing padding s t.word more rest (omega (arith, item.valid)))

tag_at-nil : (prev : ℕ) → tag_at prev [] ≡ None
unfolding tag_at
tag_at-nil prev = refl

pub tags_again : (cs : List Commit) (sum prev : ℕ) → AllByRecursion IsCommit cs → prev < 2 ^ 32
    → tags_at prev (logged sum prev cs) ≡ log_tags cs
unfolding logged
tags_again [] sum prev h low = tags_at-none prev [] (tag_at-nil prev)
tags_again (c ∷ cs) sum prev h low =
    tags_again-tags c.tags c.closing c.padding sum prev (logged 0xffffffff (next_word c) cs) h.0 low
    ∙ ap (λ (x : List Item). c.tags ++ x) (tags_again cs 0xffffffff (next_word c) h.1 (next_word-below c h.0))
    ∙ sym (flat_map-cons (λ (d : Commit). d.tags) c cs)

-- ---- the log of a block

pub no_commit : (lead rest : List ℕ) (prev : ℕ) → IsBytes lead → IsBytes rest → prev < 2 ^ 32
    → commit_at (crc 0xffffffff lead) prev rest ≡ None
    → (c : Commit) (more : List ℕ) → IsCommit c → rest ≡ commit_bytes lead prev c ++ more → ⊥
no_commit lead rest prev ahead fits low stop c more h e =
    let complete : rest ≡ sealed (crc 0xffffffff lead) prev c ++ more = e ∙ ap (λ (x : List ℕ). x ++ more) (commit_bytes-sealed lead prev c) in
    let found = commit_again (crc 0xffffffff lead) prev c more h (crc-below 0xffffffff lead (omega arith) ahead) low
    (subst IsBytes complete fits) in
    let clash : commit_at (crc 0xffffffff lead) prev rest ≡ Some (record { commit = c; rest = more }) =
    ap (commit_at (crc 0xffffffff lead) prev) complete ∙ found in
    absurd (cc (stop, clash))

reads_none : (lead rest : List ℕ) (prev : ℕ) → IsBytes rest → ((c : Commit) (more : List ℕ) → IsCommit c
    → rest ≡ commit_bytes lead prev c ++ more → ⊥)
    → (o : Option CommitFront) → commit_at (crc 0xffffffff lead) prev rest ≡ o → commit_at (crc 0xffffffff lead) prev rest ≡ None
reads_none lead rest prev fits h None e = e
reads_none lead rest prev fits h (Some r) e =
    let t : CommitTakes (crc 0xffffffff lead) prev rest r = commit_takes (crc 0xffffffff lead) prev rest r fits e in
    absurd (h r.commit r.rest t.valid (t.parts ∙ ap (λ (x : List ℕ). x ++ r.rest) (sym (commit_bytes-sealed lead prev r.commit))))

pub no_commit-none : (lead rest : List ℕ) (prev : ℕ) → IsBytes rest →
    ((c : Commit) (more : List ℕ) → IsCommit c → rest ≡ commit_bytes lead prev c ++ more → ⊥)
    → commit_at (crc 0xffffffff lead) prev rest ≡ None
no_commit-none lead rest prev fits h = reads_none lead rest prev fits h (commit_at (crc 0xffffffff lead) prev rest) refl

next_lead-bytes : (lead : List ℕ) (cs : List Commit) → IsBytes lead → IsBytes (next_lead lead cs)
next_lead-bytes lead [] h = h
next_lead-bytes lead (c ∷ cs) h = λ i. omega arith

pub log_of-takes : (block : List ℕ) → IsBytes block → LogTakes (crc 0xffffffff (take 4 block)) 0xffffffff (drop 4 block) (log_of block)
unfolding log_of
log_of-takes block h = log_takes (crc 0xffffffff (take 4 block)) 0xffffffff (drop 4 block) (IsBytes-drop 4 block h)

pub is_log : (block : List ℕ) → 4 ≤ length block → IsBytes block → IsLog block (log_of block).commits (log_of block).rest
is_log block long h =
    let f : Front = log_of block in
    let revision : List ℕ = take 4 block in
    let t = log_of-takes block h in
    let ahead : IsBytes revision = IsBytes-take 4 block h in
    let stop : commit_at (crc 0xffffffff (next_lead revision f.commits)) (final_word 0xffffffff f.commits) f.rest ≡ None =
    ap (λ (s : ℕ). commit_at s (final_word 0xffffffff f.commits) f.rest) (sum_after-lead revision f.commits)
    ∙ ap (λ (p : ℕ). commit_at (sum_after (crc 0xffffffff revision) f.commits) p f.rest) (sym t.word) ∙ t.stop in
    record {
      revision = revision;
      revision_len = omega (arith, length-take 4 block);
      each = t.each;
      parts = sym (take-append-drop 4 block) ∙ ap (λ (x : List ℕ). revision ++ x) t.parts
          ∙ ap (λ (x : List ℕ). revision ++ (x ++ f.rest)) (sym (commits_bytes-logged revision 0xffffffff f.commits))
          ∙ sym (append_assoc revision (commits_bytes revision 0xffffffff f.commits) f.rest);
      longest = no_commit (next_lead revision f.commits) f.rest (final_word 0xffffffff f.commits)
          (next_lead-bytes revision f.commits ahead) t.rest_bytes
          (final_word-below f.commits 0xffffffff t.each (omega arith)) stop;
    }

log_of-parts : (revision rest : List ℕ) (cs : List Commit) → length revision ≡ 4 → AllByRecursion IsCommit cs
    → IsBytes (revision ++ (commits_bytes revision 0xffffffff cs ++ rest))
    → commit_at (sum_after (crc 0xffffffff revision) cs) (final_word 0xffffffff cs) rest ≡ None
    → log_of (revision ++ (commits_bytes revision 0xffffffff cs ++ rest))
    ≡ record { commits = cs; last = final_word 0xffffffff cs; rest = rest }
unfolding log_of
log_of-parts revision rest cs len each h stop =
    let behind : List ℕ = commits_bytes revision 0xffffffff cs ++ rest in
    let spelled : behind ≡ logged (crc 0xffffffff revision) 0xffffffff cs ++ rest =
    ap (λ (x : List ℕ). x ++ rest) (commits_bytes-logged revision 0xffffffff cs) in
    ap (λ (x : List ℕ). log_from (crc 0xffffffff x) 0xffffffff (drop 4 (revision ++ behind))) (take_at revision behind 4 len)
    ∙ ap (log_from (crc 0xffffffff revision) 0xffffffff) (drop_at revision behind 4 len ∙ spelled)
    ∙ log_again cs (crc 0xffffffff revision) 0xffffffff rest each (crc-below 0xffffffff revision (omega arith)
    (IsBytes-front revision behind h)) (omega arith)
    (subst IsBytes spelled (IsBytes-back revision behind h)) stop

pub log_of-is : (block : List ℕ) (cs : List Commit) (rest : List ℕ) → IsBytes block → IsLog block cs rest
    → log_of block ≡ record { commits = cs; last = final_word 0xffffffff cs; rest = rest }
log_of-is block cs rest h log =
    let revision : List ℕ = log.revision in
    let behind : List ℕ = commits_bytes revision 0xffffffff cs ++ rest in
    let complete : block ≡ revision ++ behind = log.parts ∙ append_assoc revision (commits_bytes revision 0xffffffff cs) rest in
    let all : IsBytes (revision ++ behind) = subst IsBytes complete h in
    let stop : commit_at (sum_after (crc 0xffffffff revision) cs) (final_word 0xffffffff cs) rest ≡ None =
    ap (λ (s : ℕ). commit_at s (final_word 0xffffffff cs) rest) (sym (sum_after-lead revision cs))
    ∙ no_commit-none (next_lead revision cs) rest (final_word 0xffffffff cs)
    (IsBytes-back (commits_bytes revision 0xffffffff cs) rest (IsBytes-back revision behind all)) log.longest in
    ap log_of complete ∙ log_of-parts revision rest cs log.revision_len log.each all stop
