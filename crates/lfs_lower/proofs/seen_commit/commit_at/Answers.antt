use Rattle.std.proofs.Common.{◌≡◌, true, false, sym, ◌∙◌, arith}
use Rattle.lfs_tag.specs.Reading.{TagFront}
use Rattle.lfs_tag.proofs.Steps.{tag_at-shorter}
use Rattle.lfs_lower.specs.Commits.{closes}
use Rattle.lfs_tag.specs.Found.{tag_found}
use Rattle.lfs_lower.proofs.SeenLoops.{tag_more, tag_closes, no_tag}
use Rattle.lfs_lower.proofs.seen_commit.commit_at.Goals as goal

pub returns-then-closes : goal.returns-then-closes
returns-then-closes c =
    let f : TagFront = tag_found c.in-Some.found in
    let closing : closes f.item.word ≡ true = sym c.closes.ensures ∙ c.if-closes.true in
    c.closed.ensures
    ∙ tag_closes c.loop-found.told c.loop-found.sum c.crc32-sum.result c.loop-found.prev c.loop-found.rest.now f
    (sym c.in-Some.ensures.tag) closing c.crc32-sum.ensures
    ∙ c.loop-found.invariant

pub loop-found-smaller : goal.loop-found-smaller
loop-found-smaller c =
    let k = tag_at-shorter c.loop-found.prev c.loop-found.rest.now (tag_found c.in-Some.found) (sym c.in-Some.ensures.tag) in omega (arith, k)

pub loop-found-preserved : goal.loop-found-preserved
loop-found-preserved c =
    let f : TagFront = tag_found c.in-Some.found in
    let unclosed : closes f.item.word ≡ false = sym c.closes.ensures ∙ c.if-closes.false in
    tag_more c.loop-found.told c.told_by-told.result c.loop-found.sum c.crc32-sum.result c.crc32-sum-in-Some.result c.loop-found.prev
    c.word-prev.result c.loop-found.rest.now f (sym c.in-Some.ensures.tag) unclosed c.crc32-sum.ensures c.crc32-sum-in-Some.ensures c.word-prev.ensures
    c.told_by-told.ensures
    ∙ c.loop-found.invariant

pub returns : goal.returns
returns c =
    no_tag c.loop-found.told c.loop-found.sum c.loop-found.prev c.loop-found.rest.now (sym c.in_default.ensures.tag) ∙ c.loop-found.invariant
