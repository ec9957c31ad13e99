use Rattle.std.proofs.Common.{◌≡◌, ◌≢◌, ℕ, length, [], ◌∷◌, ap, sym, ◌∙◌, arith, rules}
use Rattle.lfs_tag.specs.Tag.{main_kind}
use Rattle.lfs_tag.specs.Reading.{tags_at, TagFront}
use Rattle.lfs_tag.specs.Found.{tag_found}
use Rattle.lfs_tag.proofs.Steps.{tag_at-shorter, tags_at-none, tags_at-closed, tags_at-more}
use Rattle.lfs_tag.proofs.tags.TagsIterator.next.Goals as goal

pub returns-then-main_kind-ne-CHECKSUM-clause-steps :
    goal.returns-then-main_kind-ne-CHECKSUM-clause-steps
returns-then-main_kind-ne-CHECKSUM-clause-steps c =
    let f : TagFront = tag_found c.in-Some.found in
    let kind : main_kind f.item.word ≢ 5 = λ e. c.if-main_kind-ne-CHECKSUM.true (c.main_kind.ensures ∙ e) in
    sym c.loop-found.invariant
    ∙ tags_at-more c.loop-found.self-inside.prev c.loop-found.self-inside.bytes.now f (sym c.in-Some.ensures.tag) kind
    ∙ ap (λ (p : ℕ). f.item ∷ tags_at p f.rest) (sym c.word-self-inside.ensures)

pub returns-then-main_kind-ne-CHECKSUM-clause-goes :
    goal.returns-then-main_kind-ne-CHECKSUM-clause-goes
returns-then-main_kind-ne-CHECKSUM-clause-goes c =
    let shorter = ap length (returns-then-main_kind-ne-CHECKSUM-clause-steps c) in search rules

pub loop-found-smaller : goal.loop-found-smaller
loop-found-smaller c =
    let k = tag_at-shorter c.loop-found.self-inside.prev c.loop-found.self-inside.bytes.now (tag_found c.in-Some.found)
    (sym c.in-Some.ensures.tag) in omega (arith, k)

pub loop-found-preserved : goal.loop-found-preserved
loop-found-preserved c =
    let f : TagFront = tag_found c.in-Some.found in
    let kind : main_kind f.item.word ≡ 5 = sym c.main_kind.ensures ∙ c.if-main_kind-ne-CHECKSUM.false in
    ap (λ (p : ℕ). tags_at p f.rest) c.word_after-self-inside.ensures
    ∙ sym (tags_at-closed c.loop-found.self-inside.prev c.loop-found.self-inside.bytes.now f (sym c.in-Some.ensures.tag) kind)
    ∙ c.loop-found.invariant

pub returns-clause-steps : goal.returns-clause-steps
returns-clause-steps c =
    let e : tags_at c.loop-found.self-inside.prev c.loop-found.self-inside.bytes.now ≡ [] =
    tags_at-none c.loop-found.self-inside.prev c.loop-found.self-inside.bytes.now (sym c.in_default.ensures.tag) in
    (sym c.loop-found.invariant ∙ e, e)
