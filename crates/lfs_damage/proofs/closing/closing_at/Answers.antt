use Rattle.std.proofs.Common.{◌≡◌, ℕ, true, false, Some, sym, ap, ◌∙◌, arith}
use Rattle.lfs_block.specs.Checksum.{crc}
use Rattle.lfs_tag.specs.Reading.{TagFront}
use Rattle.lfs_tag.specs.Found.{tag_found}
use Rattle.lfs_tag.proofs.Steps.{tag_at-shorter}
use Rattle.lfs_lower.specs.Commits.{closes}
use Rattle.lfs_damage.specs.Damage.{closing_at}
use Rattle.lfs_damage.proofs.ClosingSteps.{closing_at-closed, closing_at-more, closing_at-none}
use Rattle.lfs_damage.proofs.closing.closing_at.Goals as goal

pub returns-then-closes : goal.returns-then-closes
returns-then-closes c =
    let f : TagFront = tag_found c.in-Some.found in
    let closing : closes f.item.word ≡ true = sym c.closes.ensures ∙ c.if-closes.true in
    ap (λ (s : ℕ). Some (s, f)) c.crc32-sum.ensures
    ∙ sym (closing_at-closed c.loop-found.sum c.loop-found.prev c.loop-found.rest.now f (sym c.in-Some.ensures.tag) closing)
    ∙ c.loop-found.invariant

pub loop-found-smaller : goal.loop-found-smaller
loop-found-smaller c =
    let k = tag_at-shorter c.loop-found.prev c.loop-found.rest.now (tag_found c.in-Some.found) (sym c.in-Some.ensures.tag) in omega (arith, k)

pub loop-found-preserved : goal.loop-found-preserved
loop-found-preserved c =
    let f : TagFront = tag_found c.in-Some.found in
    let unclosed : closes f.item.word ≡ false = sym c.closes.ensures ∙ c.if-closes.false in
    ap (λ (s : ℕ). closing_at s c.word-prev.result f.rest) c.crc32-sum-in-Some.ensures
    ∙ ap (λ (s : ℕ). closing_at (crc s f.item.content) c.word-prev.result f.rest) c.crc32-sum.ensures
    ∙ ap (λ (w : ℕ). closing_at (crc (crc c.loop-found.sum f.stored) f.item.content) w f.rest) c.word-prev.ensures
    ∙ sym (closing_at-more c.loop-found.sum c.loop-found.prev c.loop-found.rest.now f (sym c.in-Some.ensures.tag) unclosed)
    ∙ c.loop-found.invariant

pub returns : goal.returns
returns c =
    sym (closing_at-none c.loop-found.sum c.loop-found.prev c.loop-found.rest.now (sym c.in_default.ensures.tag)) ∙ c.loop-found.invariant
