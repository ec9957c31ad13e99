-- A block with a revision and one commit, read back.
use Rattle.std.proofs.Common.{◌≡◌, ℕ, ◌+◌, ◌-◌, ◌≤◌, List, [], ◌∷◌, ◌++◌, length, take, drop, refl, ap, sym, ◌∙◌, arith, subst, Some, None}
use Rattle.std.proofs.Common.{nat_lt, append-nil}
use Rattle.std.specs.Prelude.{replicate, option_map, if◌then◌else◌}
use Rattle.std.specs.Int.{w32, to_le_bytes}
use Rattle.std.proofs.lemmas.List.{length-drop, length-replicate, take-append-le, take_all}
use Rattle.std.proofs.lemmas.List.Elements.{All-replicate, All-drop}
use Rattle.std.proofs.Math.Seq.{drop-append-add}
use Rattle.lfs_block.specs.Bytes.{IsBytes}
use Rattle.lfs_block.proofs.PutLemmas.{IsBytes-replicate}
use Rattle.lfs_tag.specs.Commit.{Item, Commit, IsCommit, commit_bytes}
use Rattle.lfs_tag.specs.Log.{IsErased, IsLog, final_word, log_tags}
use Rattle.lfs_tag.specs.LogSeen.{LogSeen, is_erased}
use Rattle.lfs_tag.specs.Reading.{Front}
use Rattle.lfs_tag.specs.Writing.{committed_end, commit_of, lead_at}
use Rattle.lfs_tag.specs.Laws.{ErasedBlock, FirstCommit, LogIsRead, WrittenLength}
use Rattle.lfs_meta.specs.LiveBlock.{committed}
use Rattle.lfs_pair.specs.Writing.{revised, log_written}

-- the new commit
abbrev new : ℕ → List Item → List ℕ → List ℕ
new number ts block = commit_bytes (lead_at 4 (revised number block)) 0xffffffff (commit_of 4 ts)

-- what is seen of a block whose log was read so
abbrev pub seen_by : List ℕ → Front → LogSeen
seen_by block f = record {
  end = length block - length f.rest;
  commits = length f.commits;
  last = final_word 0xffffffff f.commits;
  erased = is_erased f.rest;
  tags = log_tags f.commits;
}

erased_behind : (number size n : ℕ) → IsErased (drop (4 + n) (revised number (replicate size 0xff)))
erased_behind number size n =
    let erased : IsErased (drop n (drop 4 (replicate size 255))) =
    All-drop (λ b. b ≡ 255) n (drop 4 (replicate size 255)) (All-drop (λ b. b ≡ 255) 4 (replicate size 255)
    (All-replicate (λ b. b ≡ 255) size 255 refl)) in
    subst IsErased (sym (drop-append-add (to_le_bytes w32 number) (drop 4 (replicate size 255)) n)) erased

pub written-committed : FirstCommit → LogIsRead → WrittenLength → (number size : ℕ) (ts : List Item) → committed_end 4 ts ≤ size
    → IsCommit (commit_of 4 ts)
    → IsBytes (log_written number ts (replicate size 0xff)) → committed (log_written number ts (replicate size 0xff)) ≡ Some ts
written-committed first read written number size ts fits is_commit bytes =
    let block : List ℕ = replicate size 0xff in
    let c : Commit = commit_of 4 ts in
    let rest : List ℕ = drop (4 + length (new number ts block)) (revised number block) in
    let len : length block ≡ size = length-replicate size 255 in
    let new_len : 4 + length (new number ts block) ≡ committed_end 4 ts = written (lead_at 4 (revised number block)) 4 0xffffffff ts in
    let behind_len : length (drop 4 block) ≡ length block - 4 = length-drop {A = ℕ} 4 block in
    let room : 4 + length (new number ts block) ≤ length (revised number block) = omega (arith, new_len, len, behind_len, fits) in
    let log : IsLog (log_written number ts block) (c ∷ []) rest =
    first (revised number block) c is_commit room (erased_behind number size (length (new number ts block))) in
    ap (λ (f : Front). option_map (λ l. l.tags) (if nat_lt 0 (length f.commits) then Some
    (seen_by (log_written number ts block) f) else None)) (read (log_written number ts block) (c ∷ []) rest bytes log)
    ∙ ap (λ (us : List Item). Some us) (append-nil ts)

-- a list whose front was written whole
pub written_complete : {A : Type 0} (len : ℕ) (now old : List A) → len ≡ length now → take len (now ++ drop (length now) old) ≡ now
written_complete len now old e = take-append-le len now (drop (length now) old) (omega arith) ∙ take_all len now (omega arith)

-- an erased block has no commit
pub erased-uncommitted : ErasedBlock → LogIsRead → (size : ℕ) → 4 ≤ size → committed (replicate size 0xff) ≡ None
erased-uncommitted erased read size long =
    let block : List ℕ = replicate size 0xff in
    let bytes : IsBytes block = IsBytes-replicate size 0xff (omega arith) in
    let behind : IsErased (drop 4 block) = All-drop (λ b. b ≡ 255) 4 block (All-replicate (λ b. b ≡ 255) size 255 refl) in
    let log = erased block (omega (arith, length-replicate {A = ℕ} size 255, long)) bytes behind in
    ap (λ (f : Front). option_map (λ l. l.tags) (if nat_lt 0 (length f.commits) then Some (seen_by block f) else None))
    (read block [] (drop 4 block) bytes log)
