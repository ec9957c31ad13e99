use Rattle.std.proofs.Common.{[], Bor, Option, ap, sym, ◌∙◌, ◌≡◌, get_or}
use Rattle.std.specs.Prelude.{is_some}
use Rattle.lfs_meta.specs.Name.{Name}
use Rattle.lfs_fs.specs.Path.{Path}
use Rattle.lfs_listing.proofs.OrderLemmas.{tested_other, tested_same}
use Rattle.lfs_listing.proofs.BelowLemmas.{ends_early, other_name, same_name}
use Rattle.lfs_listing.proofs.below.is_below.Goals as goal

pub returns-in_default : goal.returns-in_default
returns-in_default c =
    ap (λ (o : Option Path). is_some o)
    (sym (ends_early c.each.index c.args.at.now c.args.path.now c.each-test.true c.in_default.ensures.lookup.3) ∙ c.each.invariant)

pub returns-then-ne : goal.returns-then-ne
returns-then-ne c =
    let there = c.in-Some.ensures.lookup in
    let other : Bor Name = c.in-Some.other.now in
    let is : other.now ≡ (get_or c.args.path.now c.each.index other).now = ap (λ (b : Bor Name). b.now) there.1 in
    let n : Name = (get_or c.args.at.now c.each.index (record { ref_ptr = (0, 0); now = [] })).now in
    ap (λ (o : Option Path). is_some o)
    (sym (other_name c.each.index c.args.at.now c.args.path.now _ other c.each-test.true there.3.0
    (λ same. tested_other n other.now c.if-ne.ensures (same ∙ sym is)))
    ∙ c.each.invariant)

pub each-preserved : goal.each-preserved
each-preserved c =
    let there = c.in-Some.ensures.lookup in
    let other : Bor Name = c.in-Some.other.now in
    let is : other.now ≡ (get_or c.args.path.now c.each.index other).now = ap (λ (b : Bor Name). b.now) there.1 in
    let n : Name = (get_or c.args.at.now c.each.index (record { ref_ptr = (0, 0); now = [] })).now in
    sym (same_name c.each.index c.args.at.now c.args.path.now _ other c.each-test.true there.3.0
    (tested_same n other.now c.if-ne.ensures ∙ is))
    ∙ c.each.invariant
