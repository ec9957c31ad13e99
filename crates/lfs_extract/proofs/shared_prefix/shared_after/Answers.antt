-- One name more is the same, or isn't.
use Rattle.std.proofs.Common.{Bor, ap, arith, get_or, sym, ◌≡◌, ◌∙◌}
use Rattle.lfs_meta.specs.Name.{Name}
use Rattle.lfs_listing.specs.Below.{names}
use Rattle.lfs_listing.proofs.OrderLemmas.{tested_other, tested_same}
use Rattle.lfs_extract.proofs.PrefixLemmas.{ended, meets_other, meets_same, shared_before}
use Rattle.lfs_extract.proofs.shared_prefix.shared_after.Goals as goal

pub returns-then-old-kept : goal.returns-then-old-kept
returns-then-old-kept c = λ prefix more long is.
    sym (shared_before (names c.args.at.now) prefix more _ (omega (arith, long, is, c.if-old-kept.true)) ∙ is)

pub returns-in_default : goal.returns-in_default
returns-in_default c = λ prefix more long is.
    ended c.args.at.now prefix more c.args.kept c.args.old c.args.name.now c.in_default.ensures.lookup.3 long is c.if-old-kept.false

pub returns-then-ne : goal.returns-then-ne
returns-then-ne c = λ prefix more long is.
    let there = c.in-Some.ensures.lookup in
    let next : Bor Name = c.in-Some.next.now in
    let same : next.now ≡ (get_or c.args.at.now c.args.kept next).now = ap (λ (b : Bor Name). b.now) there.1 in
    meets_other c.args.at.now prefix more c.args.kept c.args.old c.args.name.now next there.3.0 long is c.if-old-kept.false
    (λ equal. tested_other next.now c.args.name.now c.if-ne.ensures (same ∙ equal))

pub returns : goal.returns
returns c = λ prefix more long is.
    let there = c.in-Some.ensures.lookup in
    let next : Bor Name = c.in-Some.next.now in
    let same : next.now ≡ (get_or c.args.at.now c.args.kept next).now = ap (λ (b : Bor Name). b.now) there.1 in
    meets_same c.args.at.now prefix more c.args.kept c.args.old c.args.name.now next there.3.0 long is c.if-old-kept.false
    (sym same ∙ tested_same next.now c.args.name.now c.if-ne.ensures)
