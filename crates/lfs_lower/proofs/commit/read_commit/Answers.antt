use Rattle.std.proofs.Common.{◌≡◌, true, false, sym, ◌∙◌, arith}
use Rattle.lfs_tag.specs.Found.{tag_found}
use Rattle.lfs_tag.specs.Reading.{TagFront}
use Rattle.lfs_tag.proofs.Steps.{tag_at-shorter}
use Rattle.lfs_lower.specs.Commits.{closes, later_at}
use Rattle.lfs_lower.proofs.KeptLemmas.{read_more, read_closes, read_ends}
use Rattle.lfs_lower.proofs.commit.read_commit.Goals as goal

pub returns-then-closes : goal.returns-then-closes
returns-then-closes c =
    let f : TagFront = tag_found c.in-Some.found in
    let closing : closes f.item.word ≡ true = sym c.closes.ensures ∙ c.if-closes.true in
    read_closes c.args.in_root c.args.edits.now.items c.loop-found.edits.items (later_at c.args.sum c.args.prev c.args.bytes.now)
    c.loop-found.sum c.crc32-sum.result c.loop-found.prev c.loop-found.rest.now f c.closed.result c.loop-found.invariant
    (sym c.in-Some.ensures.tag) closing c.crc32-sum.ensures c.closed.ensures

pub loop-found-smaller : goal.loop-found-smaller
loop-found-smaller c =
    let k = tag_at-shorter c.loop-found.prev c.loop-found.rest.now (tag_found c.in-Some.found) (sym c.in-Some.ensures.tag) in omega (arith, k)

pub loop-found-preserved : goal.loop-found-preserved
loop-found-preserved c =
    let f : TagFront = tag_found c.in-Some.found in
    let unclosed : closes f.item.word ≡ false = sym c.closes.ensures ∙ c.if-closes.false in
    read_more c.args.in_root c.args.edits.now.items c.loop-found.edits.items c.push_kept.new.edits.items
    (later_at c.args.sum c.args.prev c.args.bytes.now) c.loop-found.sum c.crc32-sum.result c.crc32-sum-in-Some.result c.loop-found.prev
    c.word-prev.result c.loop-found.rest.now f c.loop-found.invariant (sym c.in-Some.ensures.tag) unclosed c.in_ok-push_kept.ensures
    c.crc32-sum.ensures c.crc32-sum-in-Some.ensures c.word-prev.ensures

pub returns : goal.returns
returns c =
    read_ends c.args.in_root c.args.edits.now.items c.loop-found.edits.items (later_at c.args.sum c.args.prev c.args.bytes.now)
    c.loop-found.sum c.loop-found.prev c.loop-found.rest.now c.loop-found.invariant (sym c.in_default.ensures.tag)
