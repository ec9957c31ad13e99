-- A block with one more commit, read back.
use Rattle.std.proofs.Common.{◌≡◌, ℕ, ◌+◌, ◌≤◌, true, List, [], ◌∷◌, ◌++◌, length, take, drop, ap, sym, subst, ◌∙◌}
use Rattle.std.proofs.Common.{arith, nat_le, append-nil, length-append}
use Rattle.std.specs.Int.{w32, from_le_bytes}
use Rattle.std.proofs.lemmas.Bool.{and_parts, leb-true}
use Rattle.std.proofs.lemmas.List.Concat.{flat_map-append}
use Rattle.lfs_block.specs.Bytes.{IsBytes}
use Rattle.lfs_block.specs.Disk.{put_at}
use Rattle.lfs_tag.specs.Commit.{Item, Commit, IsCommit, commit_bytes}
use Rattle.lfs_tag.specs.Log.{IsErased, IsLog, commits_bytes, log_tags}
use Rattle.lfs_tag.specs.LogSeen.{LogSeen, log_seen}
use Rattle.lfs_tag.specs.Reading.{Front, log_of}
use Rattle.lfs_tag.specs.Writing.{committed_end, commit_of, lead_at}
use Rattle.lfs_tag.specs.Laws.{ErasedIsDecided, LogIsRead, NextCommit, WrittenLength}
use Rattle.lfs_tag.proofs.Puts.{put_at-len, before-put_at}
use Rattle.lfs_pair.specs.Appending.{IsLonger, appended, has_room}

-- where a log ends: at the revision's end, or behind it
log-end : (block : List ℕ) → IsLog block (log_of block).commits (log_of block).rest
    → ((log_seen block).end + length (log_of block).rest ≡ length block) × (4 ≤ (log_seen block).end)
log-end block log =
    let front : List ℕ = log.revision ++ commits_bytes log.revision 0xffffffff (log_of block).commits in
    let all : length block ≡ length front + length (log_of block).rest = ap length log.parts
    ∙ length-append front (log_of block).rest in
    let long : length front ≡ length log.revision + length (commits_bytes log.revision 0xffffffff (log_of block).commits) =
    length-append log.revision (commits_bytes log.revision 0xffffffff (log_of block).commits) in
    let four : length log.revision ≡ 4 = log.revision_len in
    (omega (arith, all), omega (arith, all, long, four))

pub end-behind : (block : List ℕ) → IsLog block (log_of block).commits (log_of block).rest → 4 ≤ (log_seen block).end
end-behind block log = (log-end block log).1

pub room-fits : (size : ℕ) (log : LogSeen) (ts : List Item) → has_room size log ts ≡ true → committed_end log.end ts ≤ size
room-fits size log ts room =
    leb-true (committed_end log.end ts) size (and_parts log.erased (nat_le (committed_end log.end ts) size) room).1

-- where the commit stands in the block
placed : WrittenLength → (ts : List Item) (block : List ℕ) → IsLog block (log_of block).commits (log_of block).rest
    → has_room (length block) (log_seen block) ts ≡ true
    → (4 ≤ (log_seen block).end) × ((log_seen block).end + length (commit_bytes (lead_at (log_seen block).end block) (log_seen block).last
    (commit_of (log_seen block).end ts)) ≤ length block)
placed written ts block log room =
    let at : ℕ = (log_seen block).end in (
      end-behind block log,
      subst (λ (n : ℕ). n ≤ length block) (sym (written (lead_at at block) at (log_seen block).last ts))
          (room-fits (length block) (log_seen block) ts room),
    )

-- the log of the block with one more commit
log-longer : LogIsRead → WrittenLength → NextCommit → ErasedIsDecided → (ts : List Item) (block new : List ℕ)
    → IsLog block (log_of block).commits (log_of block).rest → IsBytes new → IsCommit (commit_of (log_seen block).end ts)
    → has_room (length block) (log_seen block) ts ≡ true → new ≡ appended (log_seen block) ts block
    → (log_of new).commits ≡ (log_of block).commits ++ (commit_of (log_seen block).end ts ∷ [])
log-longer read written next decided ts block new log new_bytes valid room is =
    let old : Front = log_of block in
    let at : ℕ = (log_seen block).end in
    let c : Commit = commit_of at ts in
    let more : List ℕ = commit_bytes (lead_at at block) (log_seen block).last c in
    let parts : ((log_seen block).erased ≡ true) × (nat_le (committed_end at ts) (length block) ≡ true) =
    and_parts (log_seen block).erased (nat_le (committed_end at ts) (length block)) room in
    let erased : IsErased old.rest = (decided old.rest).0 parts.0 in
    let within : at + length more ≤ length block = (placed written ts block log room).1 in
    let longer : IsLog (put_at at more block) (old.commits ++ (c ∷ [])) (drop (length more) old.rest) =
    next block old.commits old.rest at c log erased (log-end block log).0 valid within in
    let there : IsLog new (old.commits ++ (c ∷ [])) (drop (length more) old.rest) =
    subst (λ (b : List ℕ). IsLog b (old.commits ++ (c ∷ [])) (drop (length more) old.rest)) (sym is) longer in
    ap (λ (f : Front). f.commits) (read new (old.commits ++ (c ∷ [])) (drop (length more) old.rest) new_bytes there)

pub longer-is : LogIsRead → WrittenLength → NextCommit → ErasedIsDecided → (ts : List Item) (block new : List ℕ)
    → IsLog block (log_of block).commits (log_of block).rest → IsBytes new → IsCommit (commit_of (log_seen block).end ts)
    → has_room (length block) (log_seen block) ts ≡ true → new ≡ appended (log_seen block) ts block
    → IsLonger ts block new
longer-is read written next decided ts block new log new_bytes valid room is =
    let at : ℕ = (log_seen block).end in
    let c : Commit = commit_of at ts in
    let more : List ℕ = commit_bytes (lead_at at block) (log_seen block).last c in
    let commits : List Commit = (log_of block).commits in
    let place : (4 ≤ at) × (at + length more ≤ length block) = placed written ts block log room in
    let now : (log_of new).commits ≡ commits ++ (c ∷ []) =
    log-longer read written next decided ts block new log new_bytes valid room is in
    let low : 4 ≤ at = place.0 in
    let high : at + length more ≤ length block = place.1 in
    record {
      bytes = is;
      len = ap length is ∙ put_at-len at more block high;
      numbered = ap (λ (b : List ℕ). from_le_bytes w32 (take 4 b)) is
          ∙ ap (from_le_bytes w32) (before-put_at at 4 more block low (omega arith));
      commits = ap length now ∙ length-append commits (c ∷ []);
      tags = ap log_tags now ∙ flat_map-append (λ (d : Commit). d.tags) commits (c ∷ [])
          ∙ ap (λ (us : List Item). log_tags commits ++ us) (append-nil ts);
    }
