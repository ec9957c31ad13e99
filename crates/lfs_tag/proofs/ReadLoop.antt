-- The loop that reads a log: what is left decides what the whole gives.
use Rattle.std.proofs.Common.{◌≡◌, ℕ, suc, ◌+◌, ◌<◌, ◌≤◌, Bool, List, [], length, take, drop, Option, Some, None, option_map, refl, sym, ap}
use Rattle.std.proofs.Common.{subst, ◌∙◌, arith}
use Rattle.std.proofs.lemmas.List.{take_at, length-append}
use Rattle.lfs_block.specs.Checksum.{crc}
use Rattle.lfs_block.specs.Bytes.{IsBytes}
use Rattle.lfs_tag.specs.Commit.{Item, next_word}
use Rattle.lfs_tag.specs.Log.{log_tags}
use Rattle.lfs_tag.specs.Found.{commit_seen}
use Rattle.lfs_tag.specs.LogSeen.{LogSeen}
use Rattle.lfs_tag.specs.Reading.{CommitFront, commit_at, Front, with_commit, log_from, log_of, tags_at}
use Rattle.lfs_tag.proofs.Steps.{map_some, commit_at-shorter, log_from-none, log_from-more}
use Rattle.lfs_tag.proofs.Logs.{logged, log_of-takes, tags_again}

pub map_none : {A B : Type 0} (f : A → B) (o : Option A) → option_map f o ≡ None → o ≡ None
map_none f None e = refl
map_none f (Some x) e = absurd cc

-- `commits` commits are behind us, and what is left of the bytes `rest` gives the others of `whole`
pub record ReadLoop (complete : Front) (all : List ℕ) (commits sum last : ℕ) (rest : List ℕ) : Type 0 where
  pub count : commits + length (log_from sum last rest).commits ≡ length complete.commits
  pub word : (log_from sum last rest).last ≡ complete.last
  pub left : (log_from sum last rest).rest ≡ complete.rest
  pub room : commits + length rest ≤ length all

pub ReadLoop-first : (sum last : ℕ) (all : List ℕ) → ReadLoop (log_from sum last all) all 0 sum last all
ReadLoop-first sum last all = record { count = omega arith; word = refl; left = refl; room = omega arith }

pub ReadLoop-shorter : (sum last : ℕ) (rest : List ℕ) (seen : ℕ × List ℕ) → Some seen ≡ option_map commit_seen (commit_at sum last rest)
    → length seen.1 < length rest
ReadLoop-shorter sum last rest seen e =
    let m = map_some commit_seen (commit_at sum last rest) seen (sym e) in
    subst (λ (s : ℕ × List ℕ). length s.1 < length rest) m.2 (commit_at-shorter sum last rest m.0 m.1)

pub ReadLoop-more : (complete : Front) (all : List ℕ) (commits sum last : ℕ) (rest : List ℕ) (seen : ℕ × List ℕ)
    → ReadLoop complete all commits sum last rest
    → Some seen ≡ option_map commit_seen (commit_at sum last rest) → ReadLoop complete all (commits + 1) 0xffffffff seen.0 seen.1
ReadLoop-more complete all commits sum last rest seen h e =
    let m = map_some commit_seen (commit_at sum last rest) seen (sym e) in
    let r : CommitFront = m.0 in
    let next : Front = log_from 0xffffffff (next_word r.commit) r.rest in
    let step : log_from sum last rest ≡ with_commit r.commit next = log_from-more sum last rest r m.1 in
    let k : length r.rest < length rest = commit_at-shorter sum last rest r m.1 in
    let counts : length (log_from sum last rest).commits ≡ suc (length next.commits) = ap (λ (f : Front). length f.commits) step in
    let made : ReadLoop complete all (commits + 1) 0xffffffff (next_word r.commit) r.rest = record {
      count = omega (arith, h.count, counts);
      word = sym (ap (λ (f : Front). f.last) step) ∙ h.word;
      left = sym (ap (λ (f : Front). f.rest) step) ∙ h.left;
      room = omega (arith, h.room, k);
    } in
    subst (λ (s : ℕ × List ℕ). ReadLoop complete all (commits + 1) 0xffffffff s.0 s.1) m.2 made

-- at the end nothing more is read
pub record IsRead (complete : Front) (commits last : ℕ) (rest : List ℕ) : Type 0 where
  pub count : commits ≡ length complete.commits
  pub word : last ≡ complete.last
  pub left : rest ≡ complete.rest

pub ReadLoop-last : (complete : Front) (all : List ℕ) (commits sum last : ℕ) (rest : List ℕ) → ReadLoop complete all commits sum last rest
    → None ≡ option_map commit_seen (commit_at sum last rest) → IsRead complete commits last rest
ReadLoop-last complete all commits sum last rest h e =
    let stop : commit_at sum last rest ≡ None = map_none commit_seen (commit_at sum last rest) (sym e) in
    let step : log_from sum last rest ≡ record { commits = []; last = last; rest = rest } = log_from-none sum last rest stop in
    let counts : length (log_from sum last rest).commits ≡ 0 = ap (λ (f : Front). length f.commits) step in
    record {
      count = omega (arith, h.count, counts);
      word = sym (ap (λ (f : Front). f.last) step) ∙ h.word;
      left = sym (ap (λ (f : Front). f.rest) step) ∙ h.left;
    }

pub log_of-from : (block : List ℕ) → log_from (crc 0xffffffff (take 4 block)) 0xffffffff (drop 4 block) ≡ log_of block
unfolding log_of
log_of-from block = refl

-- the bytes between the revision and the rest spell the commits
pub committed-tags : (block : List ℕ) (n : ℕ) → IsBytes block → n + length (log_of block).rest ≡ length (drop 4 block)
    → tags_at 0xffffffff (take n (drop 4 block)) ≡ log_tags (log_of block).commits
committed-tags block n h e =
    let f : Front = log_of block in
    let t = log_of-takes block h in
    let front : List ℕ = logged (crc 0xffffffff (take 4 block)) 0xffffffff f.commits in
    let len : length front ≡ n = omega (arith, e, ap length t.parts, length-append front f.rest) in
    ap (λ (x : List ℕ). tags_at 0xffffffff (take n x)) t.parts
    ∙ ap (tags_at 0xffffffff) (take_at front f.rest n len)
    ∙ tags_again f.commits (crc 0xffffffff (take 4 block)) 0xffffffff t.each (omega arith)

pub block_read : (block revision bytes : List ℕ) (sum : ℕ) → sum ≡ crc 0xffffffff revision → revision ≡ take 4 block → bytes ≡ drop 4 block
    → log_from sum 0xffffffff bytes ≡ log_of block
block_read block revision bytes sum s r b =
    ap (λ (x : ℕ). log_from x 0xffffffff bytes) (s ∙ ap (crc 0xffffffff) r) ∙ ap (log_from (crc 0xffffffff (take 4 block)) 0xffffffff) b
    ∙ log_of-from block

abbrev log_with : ℕ → ℕ → ℕ → Bool → List Item → LogSeen
log_with end commits last erased tags = record { end = end; commits = commits; last = last; erased = erased; tags = tags }

-- two logs that agree in each field
pub same_log : (a b : LogSeen) → a.end ≡ b.end → a.commits ≡ b.commits → a.last ≡ b.last → a.erased ≡ b.erased → a.tags ≡ b.tags → a ≡ b
same_log a b end commits last erased tags =
    ap (λ (n : ℕ). log_with n a.commits a.last a.erased a.tags) end
    ∙ ap (λ (n : ℕ). log_with b.end n a.last a.erased a.tags) commits
    ∙ ap (λ (n : ℕ). log_with b.end b.commits n a.erased a.tags) last
    ∙ ap (λ (t : Bool). log_with b.end b.commits b.last t a.tags) erased
    ∙ ap (log_with b.end b.commits b.last b.erased) tags
