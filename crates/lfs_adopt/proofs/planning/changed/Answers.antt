-- One part more.
use Rattle.std.proofs.Common.{◌≡◌, ◌<◌, ℕ, List, ◌++◌, length, ap, subst, arith}
use Rattle.std.specs.Prelude.{All, not}
use Rattle.std.specs.List.{filter}
use Rattle.std.specs.Vec.Iter.{into_iter_items}
use Rattle.std.proofs.lemmas.List.Elements.{All-head, All-tail}
use Rattle.lfs_fs.specs.Gathering.{PairPart}
use Rattle.lfs_fs.specs.Reading.{reading_of}
use Rattle.lfs_settle.specs.Settled.{is_held}
use Rattle.lfs_settle.proofs.PartLists.{pushed_all, pushed_more}
use Rattle.lfs_adopt.proofs.planning.changed.Goals as goal

pub is_held-requires-clause-first : goal.is_held-requires-clause-first
is_held-requires-clause-first g c =
    let n : ℕ = (g.B.Blocks.disk c.args.blocks.now).count in
    All-head (λ (p : PairPart). p.0.0 < n) c.in-Some.part (into_iter_items c.next.new.self)
    (subst (All (λ (p : PairPart). p.0.0 < n)) c.in-Some.ensures.steps.0 c.each.invariant.first)

pub is_held-requires-clause-second : goal.is_held-requires-clause-second
is_held-requires-clause-second g c =
    let n : ℕ = (g.B.Blocks.disk c.args.blocks.now).count in
    All-head (λ (p : PairPart). p.0.1 < n) c.in-Some.part (into_iter_items c.next.new.self)
    (subst (All (λ (p : PairPart). p.0.1 < n)) c.in-Some.ensures.steps.0 c.each.invariant.second)

pub each-preserved : goal.each-preserved
each-preserved g c =
    let n : ℕ = (g.B.Blocks.disk c.args.blocks.now).count in
    let r = reading_of (g.B.Blocks.disk c.args.blocks.now) in
    record {
      counted = omega (arith, ap (λ (x : List PairPart). length x) c.in-Some.ensures.steps.0, c.in-Some.ensures.steps.1);
      first = All-tail (λ (p : PairPart). p.0.0 < n) c.in-Some.part (into_iter_items c.next.new.self)
          (subst (All (λ (p : PairPart). p.0.0 < n)) c.in-Some.ensures.steps.0 c.each.invariant.first);
      second = All-tail (λ (p : PairPart). p.0.1 < n) c.in-Some.part (into_iter_items c.next.new.self)
          (subst (All (λ (p : PairPart). p.0.1 < n)) c.in-Some.ensures.steps.0 c.each.invariant.second);
      left = pushed_more (λ (p : PairPart). is_held r p) c.in_ok-held.held
          (filter (λ (p : PairPart). not (is_held r p)) c.args.parts.items) c.each.changed.items c.push_unless.new.changed.items
          c.in-Some.part (into_iter_items c.next.new.self) c.in_ok-held.ensures c.in_ok-push_unless.ensures
          (subst (λ (ps : List PairPart). filter (λ (p : PairPart). not (is_held r p)) c.args.parts.items
          ≡ c.each.changed.items ++ filter (λ (p : PairPart). not (is_held r p)) ps) c.in-Some.ensures.steps.0 c.each.invariant.left);
    }

pub returns : goal.returns
returns g c =
    let r = reading_of (g.B.Blocks.disk c.args.blocks.now) in
    pushed_all (λ (p : PairPart). is_held r p) (filter (λ (p : PairPart). not (is_held r p)) c.args.parts.items) c.each.changed.items
    (into_iter_items c.each.part-iterator) (omega (arith, c.each.invariant.counted, c.in-None.ensures.steps.0)) c.each.invariant.left
