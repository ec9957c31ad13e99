-- What was read when the loop is left is the log of the block.
use Rattle.std.proofs.Common.{◌≡◌, ◌≤◌, ◌+◌, ◌-◌, length, take, drop, ℕ, ap, subst, ◌∙◌, arith}
use Rattle.std.proofs.lemmas.List.{length-drop}
use Rattle.lfs_block.specs.Bytes.{IsBytes}
use Rattle.lfs_tag.specs.Found.{commit_found}
use Rattle.lfs_tag.specs.Log.{log_tags}
use Rattle.lfs_tag.specs.LogSeen.{is_erased, log_seen}
use Rattle.lfs_tag.specs.Reading.{Front, log_of, tags_at}
use Rattle.lfs_tag.proofs.Logs.{log_of-takes, is_log}
use Rattle.lfs_tag.proofs.ReadLoop.{ReadLoop-first, ReadLoop-shorter, ReadLoop-more, IsRead, ReadLoop-last, block_read, committed-tags}
use Rattle.lfs_tag.proofs.ReadLoop.{same_log}
use Rattle.lfs_tag.proofs.log.Log.read.Goals as goal

pub loop-commit-init : goal.loop-commit-init
loop-commit-init c = ReadLoop-first _ _ _

pub loop-commit-smaller : goal.loop-commit-smaller
loop-commit-smaller c = ReadLoop-shorter c.loop-commit.sum c.loop-commit.last c.loop-commit.rest.now
    (commit_found c.in-Some.commit) c.in-Some.ensures

pub loop-commit-preserved : goal.loop-commit-preserved
loop-commit-preserved c = ReadLoop-more _ _ c.loop-commit.commits c.loop-commit.sum c.loop-commit.last c.loop-commit.rest.now
    (commit_found c.in-Some.commit) c.loop-commit.invariant c.in-Some.ensures

bytes : (c : goal.After-is_erased) → IsBytes c.args.block.now
bytes c i = omega (arith, c.type_inv.block i)

done : (c : goal.After-is_erased) → IsRead (log_of c.args.block.now) c.loop-commit.commits c.loop-commit.last c.loop-commit.rest.now
done c =
    let complete = block_read c.args.block.now c.split_at.result.0.now c.split_at.result.1.now c.crc32-sum.result c.crc32-sum.ensures
    c.split_at.ensures.front c.split_at.ensures.back in
    subst (λ (f : Front). IsRead f c.loop-commit.commits c.loop-commit.last c.loop-commit.rest.now) complete
    (ReadLoop-last _ _ c.loop-commit.commits c.loop-commit.sum c.loop-commit.last c.loop-commit.rest.now c.loop-commit.invariant
    c.in_default.ensures)

-- the rest is no longer than all behind the revision
short : (c : goal.After-is_erased) → length (log_of c.args.block.now).rest ≤ length (drop 4 c.args.block.now)
short c =
    let all : length c.split_at.result.1.now ≡ length (drop 4 c.args.block.now) = ap length c.split_at.ensures.back in
    let rest : length c.loop-commit.rest.now ≡ length (log_of c.args.block.now).rest = ap length (done c).left in
    omega (arith, c.loop-commit.invariant.room, all, rest)

-- as many bytes of commits as stand before the rest
size : (c : goal.After-is_erased) → length c.split_at.result.1.now - length c.loop-commit.rest.now + length (log_of c.args.block.now).rest
    ≡ length (drop 4 c.args.block.now)
size c =
    let all : length c.split_at.result.1.now ≡ length (drop 4 c.args.block.now) = ap length c.split_at.ensures.back in
    let rest : length c.loop-commit.rest.now ≡ length (log_of c.args.block.now).rest = ap length (done c).left in
    omega (arith, short c, all, rest)

pub returns-clause-log : goal.returns-clause-log
returns-clause-log c = is_log c.args.block.now c.requires (bytes c)

tags : (c : goal.After-is_erased) → tags_at 0xffffffff c.split_at-2.result.0.now ≡ log_tags (log_of c.args.block.now).commits
tags c =
    let n : ℕ = length c.split_at.result.1.now - length c.loop-commit.rest.now in
    ap (tags_at 0xffffffff) (c.split_at-2.ensures.front ∙ ap (take n) c.split_at.ensures.back)
    ∙ committed-tags c.args.block.now n (bytes c) (size c)

pub returns-clause-seen : goal.returns-clause-seen
returns-clause-seen c =
    same_log _ (log_seen c.args.block.now)
    (omega (arith, size c, c.split_at-2.ensures.front_len, c.requires, length-drop 4 c.args.block.now))
    (done c).count
    ((done c).word ∙ (log_of-takes c.args.block.now (bytes c)).word)
    (c.is_erased.ensures ∙ ap is_erased (done c).left)
    (tags c)
