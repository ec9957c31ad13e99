use Rattle.std.proofs.Common.{◌≡◌, ◌≢◌, ℕ, ◌+◌, ◌-◌, length, take, option_map, subst, ap, sym, ◌∙◌, arith}
use Rattle.lfs_block.specs.Checksum.{crc}
use Rattle.lfs_tag.specs.Tag.{main_kind}
use Rattle.lfs_tag.specs.Reading.{TagFront, closed}
use Rattle.lfs_tag.specs.Found.{tag_found, commit_seen}
use Rattle.lfs_tag.proofs.Steps.{tag_at-shorter}
use Rattle.lfs_tag.proofs.Covered.{Left, left_more, left_closing, left_closed, left_none}
use Rattle.lfs_tag.proofs.reading.commit_at.Goals as goal

pub split_at-requires : goal.split_at-requires
split_at-requires c =
    left_closing c.args.sum c.args.prev c.args.bytes.now c.loop-found.prev c.loop-found.rest.now
    (tag_found c.in-Some.found) c.loop-found.invariant (sym c.in-Some.ensures.tag)

pub returns-then-main_kind-eq-CHECKSUM : goal.returns-then-main_kind-eq-CHECKSUM
returns-then-main_kind-eq-CHECKSUM c =
    let f : TagFront = tag_found c.in-Some.found in
    let kind : main_kind f.item.word ≡ 5 = sym c.main_kind.ensures ∙ c.if-main_kind-eq-CHECKSUM.true in
    let covered : c.crc32.result ≡ crc c.args.sum (take (length c.args.bytes.now - length c.loop-found.rest.now + 4) c.args.bytes.now) =
    c.crc32.ensures ∙ ap (crc c.args.sum) c.split_at.ensures.front in
    c.closed.ensures
    ∙ ap (λ (s : ℕ). option_map commit_seen (closed s f)) covered
    ∙ left_closed c.args.sum c.args.prev c.args.bytes.now c.loop-found.prev c.loop-found.rest.now f c.loop-found.invariant
    (sym c.in-Some.ensures.tag) kind

pub loop-found-smaller : goal.loop-found-smaller
loop-found-smaller c = let k = tag_at-shorter c.loop-found.prev c.loop-found.rest.now (tag_found c.in-Some.found) (sym c.in-Some.ensures.tag) in
    omega (arith, k)

pub loop-found-preserved : goal.loop-found-preserved
loop-found-preserved c =
    let f : TagFront = tag_found c.in-Some.found in
    let kind : main_kind f.item.word ≢ 5 = λ e. c.if-main_kind-eq-CHECKSUM.false (c.main_kind.ensures ∙ e) in
    subst (λ (w : ℕ). Left c.args.sum c.args.prev c.args.bytes.now w f.rest) (sym c.word-prev.ensures)
    (left_more c.args.sum c.args.prev c.args.bytes.now c.loop-found.prev c.loop-found.rest.now f c.loop-found.invariant
    (sym c.in-Some.ensures.tag) kind)

pub returns : goal.returns
returns c =
    left_none c.args.sum c.args.prev c.args.bytes.now c.loop-found.prev c.loop-found.rest.now c.loop-found.invariant
    (sym c.in_default.ensures.tag)
