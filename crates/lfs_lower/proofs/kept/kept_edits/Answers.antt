use Rattle.std.proofs.Common.{Vec, Global, ◌≡◌, ℕ, false, drop, List, option_map, take, ap, ◌∙◌}
use Rattle.lfs_block.specs.Checksum.{crc}
use Rattle.lfs_tag.specs.declared.edit.Edit.{Edit}
use Rattle.lfs_tag.specs.Commit.{Commit}
use Rattle.lfs_tag.specs.Writing.{items}
use Rattle.lfs_lower.specs.Commits.{commits_from}
use Rattle.lfs_lower.specs.Spelled.{tags_said, tags_lowered}
use Rattle.lfs_lower.proofs.KeptLemmas.{kept_of, kept_of-said, commit_more, commit_shorter, no_commit, then_map}
use Rattle.lfs_lower.proofs.kept.kept_edits.Goals as goal

pub loop-edits-init : goal.loop-edits-init
loop-edits-init c =
    let sum : c.crc32-sum.result ≡ crc 0xffffffff (take 4 c.args.block.now) =
    c.crc32-sum.ensures ∙ ap (crc 0xffffffff) c.split_at.ensures.front in
    ap (λ (es : List Edit). kept_of c.args.in_root false (items es) (commits_from c.crc32-sum.result 0xffffffff c.split_at.result.1.now))
    c.new-edits.ensures.items
    ∙ kept_of-said c.args.in_root (commits_from c.crc32-sum.result 0xffffffff c.split_at.result.1.now)
    ∙ ap (λ (cs : List Commit). option_map (tags_lowered c.args.in_root) (tags_said cs))
    (ap (commits_from c.crc32-sum.result 0xffffffff) c.split_at.ensures.back
    ∙ ap (λ (s : ℕ). commits_from s 0xffffffff (drop 4 c.args.block.now)) sum)

pub loop-edits-smaller : goal.loop-edits-smaller
loop-edits-smaller c =
    commit_shorter c.args.in_root c.loop-edits.edits.items c.commit_at.new.edits.items c.loop-edits.sum c.loop-edits.prev
    c.loop-edits.rest.now c.in_ok-commit.field-0 c.in-Some.commit c.in_ok-commit.ensures c.in-Some.is

pub loop-edits-preserved : goal.loop-edits-preserved
loop-edits-preserved c =
    commit_more c.args.in_root c.loop-edits.is_there c.loop-edits.edits.items c.commit_at.new.edits.items c.loop-edits.sum
    c.loop-edits.prev c.loop-edits.rest.now c.in_ok-commit.field-0 c.in-Some.commit c.in_ok-commit.ensures c.in-Some.is
    ∙ c.loop-edits.invariant

pub returns : goal.returns
returns c =
    ap (option_map (λ (edits : Vec Edit Global). items edits.items)) c.then_some.ensures
    ∙ then_map (λ (edits : Vec Edit Global). items edits.items) c.loop-edits.is_there c.commit_at.new.edits
    ∙ no_commit c.args.in_root c.loop-edits.is_there c.loop-edits.edits.items c.commit_at.new.edits.items c.loop-edits.sum c.loop-edits.prev
    c.loop-edits.rest.now c.in_ok-commit.field-0 c.in_ok-commit.ensures c.in_default.is
    ∙ c.loop-edits.invariant
