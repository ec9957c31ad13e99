-- What is written behind the log is the next commit.
use Rattle.std.proofs.Common.{◌≡◌, ◌≤◌, ◌∙◌, ℕ, List, length, ap, subst, sym, arith}
use Rattle.lfs_block.specs.Bytes.{IsBytes}
use Rattle.lfs_block.specs.Disk.{put_at}
use Rattle.lfs_tag.specs.Commit.{Item, IsCommit, commit_bytes}
use Rattle.lfs_tag.specs.LogSeen.{log_seen}
use Rattle.lfs_tag.specs.Writing.{items, committed_end, commit_of, lead_at}
use Rattle.lfs_pair.specs.Appending.{appended}
use Rattle.lfs_pair.proofs.LongerLemmas.{longer-is, end-behind, room-fits}
use Rattle.lfs_pair.proofs.appending.lengthen.Goals as goal

pub write_commit-end-requires : goal.write_commit-end-requires
write_commit-end-requires c =
    let block : List ℕ = c.args.block.now in
    record {
      at = subst (λ (n : ℕ). 4 ≤ n) (sym c.requires.end) (end-behind block c.requires.log);
      fits =
          subst (λ (n : ℕ). committed_end n (items c.args.edits.now) ≤ length block) (sym c.requires.end)
          (room-fits (length block) (log_seen block) (items c.args.edits.now) c.requires.room);
    }

pub returns : goal.returns
returns c =
    let block : List ℕ = c.args.block.now in
    let new : List ℕ = c.write_commit-end.new.block in
    let ts : List Item = items c.args.edits.now in
    let at : ℕ = (log_seen block).end in
    let bytes : IsBytes new = λ i. omega (arith, c.type_inv.block i) in
    let valid : IsCommit (commit_of at ts) = subst (λ (n : ℕ). IsCommit (commit_of n ts)) c.requires.end c.write_commit-end.ensures.commit in
    let is : new ≡ appended (log_seen block) ts block =
    c.write_commit-end.ensures.written
    ∙ ap (λ (n : ℕ). put_at n (commit_bytes (lead_at n block) c.args.last (commit_of n ts)) block) c.requires.end
    ∙ ap (λ (w : ℕ). put_at at (commit_bytes (lead_at at block) w (commit_of at ts)) block) c.requires.last in
    longer-is c.log_is_read.ensures c.written_length.ensures c.next_commit.ensures c.erased_is_decided.ensures ts block new
    c.requires.log bytes valid c.requires.room is
