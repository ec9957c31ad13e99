-- Each pair is marked and read, and its part, whose tail is led to the right pair, is put after the others.
use Rattle.std.proofs.Common.{◌≡◌, List, [], ◌∷◌, ◌++◌, Option, None, false, replicate, ap, sym, ◌∙◌, subst}
use Rattle.std.specs.Prelude.{IfNone, IfSome, Some, option_map, option_to_list}
use Rattle.std.specs.List.{AllByRecursion}
use Rattle.lfs_meta.specs.Body.{Pair}
use Rattle.lfs_meta.specs.Complete.{IsComplete}
use Rattle.lfs_fs.specs.Gathering.{PairPart}
use Rattle.lfs_lower.specs.LaterReading.{later_reading_of}
use Rattle.lfs_fs.specs.Thread.{next}
use Rattle.lfs_fs.specs.Used.{AddsBlocks, AreTaken}
use Rattle.lfs_fs.proofs.ThreadReadLemmas.{pair_within}
use Rattle.lfs_lower.specs.Joining.{parts_held}
use Rattle.lfs_lower.proofs.GatheredParts.{marked_by, refused_by}
use Rattle.lfs_settle.specs.Ended.{steps_in}
use Rattle.lfs_settle.specs.InStep.{stepped_part, stepping}
use Rattle.lfs_settle.specs.Walked.{AreWalked}
use Rattle.lfs_settle.proofs.StepsAlong.{steps_all, steps_more, steps_none, steps_unread}
use Rattle.lfs_settle.proofs.Walk.{walked_all, walked_more, walked_none, walked_taken, walked_unread}
use Rattle.lfs_settle.proofs.thread.read_thread.Goals as goal

pub walk-init : goal.walk-init
walk-init g c =
    let before = later_reading_of (g.B.Blocks.disk c.args.blocks.now) in
    let named = c.args.steps.now in
    let none = c.nothing_read-thread.ensures in
    record {
      walked = walked_none (stepping named before) c.as_mut_slice-table.result.now c.nothing_read-thread.result.pairs.items
          c.nothing_read-thread.result.parts.items
          (c.as_mut_slice-table.ensures.value ∙ c.in_ok-used.ensures.items_if_clones_equal (λ y same. same)
          ∙ ap (λ n. replicate n false) c.count.ensures) none.pairs none.parts;
      steps = steps_none named before c.nothing_read-thread.result.steps.items c.nothing_read-thread.result.pairs.items none.steps
          none.pairs;
      cut = none.whole;
    }

pub returns-then-is_err-clause-pairs : goal.returns-then-is_err-clause-pairs
returns-then-is_err-clause-pairs g c =
    let r = stepping c.args.steps.now (later_reading_of (g.B.Blocks.disk c.args.blocks.now)) in
    let refused = refused_by c.mark_all.result (λ fault. AreTaken fault c.walk.table (c.in-Some.pair.0 ∷ c.in-Some.pair.1 ∷ []))
    (sym c.is_err.ensures.value ∙ c.if-is_err.true) c.mark_all.ensures.refused in
    (walked_taken r c.walk.table c.walk.thread.pairs.items c.walk.thread.parts.items c.in-Some.pair refused.0
    (subst (λ (o : Option Pair). AreWalked r c.walk.table c.walk.thread.pairs.items c.walk.thread.parts.items o) c.in-Some.is
    c.walk.invariant.walked)
    refused.1).pairs_are

pub returns-then-is_err-clause-parts : goal.returns-then-is_err-clause-parts
returns-then-is_err-clause-parts g c =
    let r = stepping c.args.steps.now (later_reading_of (g.B.Blocks.disk c.args.blocks.now)) in
    let refused = refused_by c.mark_all.result (λ fault. AreTaken fault c.walk.table (c.in-Some.pair.0 ∷ c.in-Some.pair.1 ∷ []))
    (sym c.is_err.ensures.value ∙ c.if-is_err.true) c.mark_all.ensures.refused in
    (walked_taken r c.walk.table c.walk.thread.pairs.items c.walk.thread.parts.items c.in-Some.pair refused.0
    (subst (λ (o : Option Pair). AreWalked r c.walk.table c.walk.thread.pairs.items c.walk.thread.parts.items o) c.in-Some.is
    c.walk.invariant.walked)
    refused.1).parts_are

pub returns-then-is_err-clause-whole : goal.returns-then-is_err-clause-whole
returns-then-is_err-clause-whole g c =
    let r = stepping c.args.steps.now (later_reading_of (g.B.Blocks.disk c.args.blocks.now)) in
    let refused = refused_by c.mark_all.result (λ fault. AreTaken fault c.walk.table (c.in-Some.pair.0 ∷ c.in-Some.pair.1 ∷ []))
    (sym c.is_err.ensures.value ∙ c.if-is_err.true) c.mark_all.ensures.refused in
    c.walk.invariant.cut ∙ (walked_taken r c.walk.table c.walk.thread.pairs.items c.walk.thread.parts.items c.in-Some.pair refused.0
    (subst (λ (o : Option Pair). AreWalked r c.walk.table c.walk.thread.pairs.items c.walk.thread.parts.items o) c.in-Some.is
    c.walk.invariant.walked)
    refused.1).whole_is

pub returns-then-is_err-clause-steps : goal.returns-then-is_err-clause-steps
returns-then-is_err-clause-steps g c =
    let before = later_reading_of (g.B.Blocks.disk c.args.blocks.now) in
    let r = stepping c.args.steps.now before in
    let refused = refused_by c.mark_all.result (λ fault. AreTaken fault c.walk.table (c.in-Some.pair.0 ∷ c.in-Some.pair.1 ∷ []))
    (sym c.is_err.ensures.value ∙ c.if-is_err.true) c.mark_all.ensures.refused in
    steps_all c.args.steps.now before c.walk.thread.steps.items c.walk.thread.pairs.items c.walk.invariant.steps
    (walked_taken r c.walk.table c.walk.thread.pairs.items c.walk.thread.parts.items c.in-Some.pair refused.0
    (subst (λ (o : Option Pair). AreWalked r c.walk.table c.walk.thread.pairs.items c.walk.thread.parts.items o) c.in-Some.is
    c.walk.invariant.walked)
    refused.1).pairs_are

pub later_part_at-requires-clause-first : goal.later_part_at-requires-clause-first
later_part_at-requires-clause-first g c =
    let r = later_reading_of (g.B.Blocks.disk c.args.blocks.now) in
    let marked = marked_by c.mark_all.result (AddsBlocks c.walk.table c.mark_all.new.used (c.in-Some.pair.0 ∷ c.in-Some.pair.1 ∷ []))
    (sym c.is_err.ensures.value ∙ c.if-is_err.false) c.mark_all.ensures.marked in
    (pair_within r c.in-Some.pair c.walk.table c.mark_all.new.used c.walk.invariant.walked.len marked).0

pub later_part_at-requires-clause-second : goal.later_part_at-requires-clause-second
later_part_at-requires-clause-second g c =
    let r = later_reading_of (g.B.Blocks.disk c.args.blocks.now) in
    let marked = marked_by c.mark_all.result (AddsBlocks c.walk.table c.mark_all.new.used (c.in-Some.pair.0 ∷ c.in-Some.pair.1 ∷ []))
    (sym c.is_err.ensures.value ∙ c.if-is_err.false) c.mark_all.ensures.marked in
    (pair_within r c.in-Some.pair c.walk.table c.mark_all.new.used c.walk.invariant.walked.len marked).1

pub returns-in_default-2-clause-pairs : goal.returns-in_default-2-clause-pairs
returns-in_default-2-clause-pairs g c =
    let before = later_reading_of (g.B.Blocks.disk c.args.blocks.now) in
    let r = stepping c.args.steps.now before in
    let marked = marked_by c.mark_all.result (AddsBlocks c.walk.table c.mark_all.new.used (c.in-Some.pair.0 ∷ c.in-Some.pair.1 ∷ []))
    (sym c.is_err.ensures.value ∙ c.if-is_err.false) c.mark_all.ensures.marked in
    let through = walked_unread r c.walk.table c.walk.thread.pairs.items c.walk.thread.parts.items c.in-Some.pair c.mark_all.new.used
    (subst (λ (o : Option Pair). AreWalked r c.walk.table c.walk.thread.pairs.items c.walk.thread.parts.items o) c.in-Some.is
    c.walk.invariant.walked) marked
    (ap (option_map (stepped_part c.args.steps.now))
    (subst (λ (o : Option PairPart). IfNone o (before.part c.in-Some.pair ≡ None)) c.in_default-2.is c.in_ok-part.ensures.none)) in
    c.in_ok-push.ensures.items ∙ through.pairs_are

pub returns-in_default-2-clause-parts : goal.returns-in_default-2-clause-parts
returns-in_default-2-clause-parts g c =
    let before = later_reading_of (g.B.Blocks.disk c.args.blocks.now) in
    let r = stepping c.args.steps.now before in
    let marked = marked_by c.mark_all.result (AddsBlocks c.walk.table c.mark_all.new.used (c.in-Some.pair.0 ∷ c.in-Some.pair.1 ∷ []))
    (sym c.is_err.ensures.value ∙ c.if-is_err.false) c.mark_all.ensures.marked in
    let through = walked_unread r c.walk.table c.walk.thread.pairs.items c.walk.thread.parts.items c.in-Some.pair c.mark_all.new.used
    (subst (λ (o : Option Pair). AreWalked r c.walk.table c.walk.thread.pairs.items c.walk.thread.parts.items o) c.in-Some.is
    c.walk.invariant.walked) marked
    (ap (option_map (stepped_part c.args.steps.now))
    (subst (λ (o : Option PairPart). IfNone o (before.part c.in-Some.pair ≡ None)) c.in_default-2.is c.in_ok-part.ensures.none)) in
    through.parts_are

pub returns-in_default-2-clause-whole : goal.returns-in_default-2-clause-whole
returns-in_default-2-clause-whole g c =
    let before = later_reading_of (g.B.Blocks.disk c.args.blocks.now) in
    let r = stepping c.args.steps.now before in
    let marked = marked_by c.mark_all.result (AddsBlocks c.walk.table c.mark_all.new.used (c.in-Some.pair.0 ∷ c.in-Some.pair.1 ∷ []))
    (sym c.is_err.ensures.value ∙ c.if-is_err.false) c.mark_all.ensures.marked in
    let through = walked_unread r c.walk.table c.walk.thread.pairs.items c.walk.thread.parts.items c.in-Some.pair c.mark_all.new.used
    (subst (λ (o : Option Pair). AreWalked r c.walk.table c.walk.thread.pairs.items c.walk.thread.parts.items o) c.in-Some.is
    c.walk.invariant.walked) marked
    (ap (option_map (stepped_part c.args.steps.now))
    (subst (λ (o : Option PairPart). IfNone o (before.part c.in-Some.pair ≡ None)) c.in_default-2.is c.in_ok-part.ensures.none)) in
    c.walk.invariant.cut ∙ through.whole_is

pub returns-in_default-2-clause-steps : goal.returns-in_default-2-clause-steps
returns-in_default-2-clause-steps g c =
    let before = later_reading_of (g.B.Blocks.disk c.args.blocks.now) in
    let r = stepping c.args.steps.now before in
    let marked = marked_by c.mark_all.result (AddsBlocks c.walk.table c.mark_all.new.used (c.in-Some.pair.0 ∷ c.in-Some.pair.1 ∷ []))
    (sym c.is_err.ensures.value ∙ c.if-is_err.false) c.mark_all.ensures.marked in
    let through = walked_unread r c.walk.table c.walk.thread.pairs.items c.walk.thread.parts.items c.in-Some.pair c.mark_all.new.used
    (subst (λ (o : Option Pair). AreWalked r c.walk.table c.walk.thread.pairs.items c.walk.thread.parts.items o) c.in-Some.is
    c.walk.invariant.walked) marked
    (ap (option_map (stepped_part c.args.steps.now))
    (subst (λ (o : Option PairPart). IfNone o (before.part c.in-Some.pair ≡ None)) c.in_default-2.is c.in_ok-part.ensures.none)) in
    steps_unread c.args.steps.now before c.walk.thread.steps.items c.walk.thread.pairs.items c.in-Some.pair c.walk.invariant.steps
    (subst (λ (o : Option PairPart). IfNone o (before.part c.in-Some.pair ≡ None)) c.in_default-2.is c.in_ok-part.ensures.none)
    through.pairs_are

pub walk-preserved : goal.walk-preserved
walk-preserved g c =
    let before = later_reading_of (g.B.Blocks.disk c.args.blocks.now) in
    let named = c.args.steps.now in
    let r = stepping named before in
    let pair = c.in-Some.pair in
    let part : PairPart = c.in-Some-2.part in
    let at : part.0 ≡ pair = subst (λ (o : Option PairPart). IfSome o (λ p. p.0 ≡ pair)) c.in-Some-2.is c.in_ok-part.ensures.pair in
    let found : before.part pair ≡ Some part.1 =
    subst (λ (o : Option PairPart). IfSome o (λ p. before.part pair ≡ Some p.1)) c.in-Some-2.is c.in_ok-part.ensures.found in
    let complete : AllByRecursion IsComplete part.1.entries =
    subst (λ (o : Option PairPart). IfSome o (λ p. AllByRecursion IsComplete p.1.entries)) c.in-Some-2.is c.in_ok-part.ensures.complete in
    let marked = marked_by c.mark_all.result (AddsBlocks c.walk.table c.mark_all.new.used (pair.0 ∷ pair.1 ∷ []))
    (sym c.is_err.ensures.value ∙ c.if-is_err.false) c.mark_all.ensures.marked in
    let more = walked_more r c.walk.table c.walk.thread.pairs.items c.walk.thread.parts.items pair c.mark_all.new.used
    (stepped_part named part.1)
    (subst (λ (o : Option Pair). AreWalked r c.walk.table c.walk.thread.pairs.items c.walk.thread.parts.items o) c.in-Some.is
    c.walk.invariant.walked) marked
    (ap (option_map (stepped_part named)) found) complete in
    let stepped : c.step-step.new.part ≡ (pair, stepped_part named part.1) =
    c.step-step.ensures.part ∙ ap (λ (p : Pair). (p, stepped_part named part.1)) at in
    let tail : c.next_pair-next.result ≡ next (stepped_part named part.1).tail =
    c.next_pair-next.ensures
    ∙ ap (λ (p : PairPart). next p.1.tail) (c.part.view_is ∙ stepped) in
    record {
      walked = rw (tail, c.in_ok-push.ensures.items, c.in_ok-push-2.ensures.items, stepped) more;
      steps = steps_more named before c.walk.thread.steps.items c.push_step.new.steps.items c.walk.thread.pairs.items pair part.1
          c.walk.invariant.steps found
          (c.in_ok-push_step.ensures
          ∙ ap (λ (o : Option (Pair × Pair)). c.walk.thread.steps.items ++ option_to_list o) c.step-step.ensures.step)
          ∙ ap (λ (ps : List Pair). steps_in named (parts_held before ps)) (sym c.in_ok-push.ensures.items);
      cut = c.walk.invariant.cut;
    }

pub returns-clause-pairs : goal.returns-clause-pairs
returns-clause-pairs g c =
    let r = stepping c.args.steps.now (later_reading_of (g.B.Blocks.disk c.args.blocks.now)) in
    (walked_all r c.walk.table c.walk.thread.pairs.items c.walk.thread.parts.items
    (subst (λ (o : Option Pair). AreWalked r c.walk.table c.walk.thread.pairs.items c.walk.thread.parts.items o) c.in_default.is
    c.walk.invariant.walked)).pairs_are

pub returns-clause-parts : goal.returns-clause-parts
returns-clause-parts g c =
    let r = stepping c.args.steps.now (later_reading_of (g.B.Blocks.disk c.args.blocks.now)) in
    (walked_all r c.walk.table c.walk.thread.pairs.items c.walk.thread.parts.items
    (subst (λ (o : Option Pair). AreWalked r c.walk.table c.walk.thread.pairs.items c.walk.thread.parts.items o) c.in_default.is
    c.walk.invariant.walked)).parts_are

pub returns-clause-whole : goal.returns-clause-whole
returns-clause-whole g c =
    let r = stepping c.args.steps.now (later_reading_of (g.B.Blocks.disk c.args.blocks.now)) in
    (walked_all r c.walk.table c.walk.thread.pairs.items c.walk.thread.parts.items
    (subst (λ (o : Option Pair). AreWalked r c.walk.table c.walk.thread.pairs.items c.walk.thread.parts.items o) c.in_default.is
    c.walk.invariant.walked)).whole_is

pub returns-clause-steps : goal.returns-clause-steps
returns-clause-steps g c =
    let before = later_reading_of (g.B.Blocks.disk c.args.blocks.now) in
    let r = stepping c.args.steps.now before in
    steps_all c.args.steps.now before c.walk.thread.steps.items c.walk.thread.pairs.items c.walk.invariant.steps
    (walked_all r c.walk.table c.walk.thread.pairs.items c.walk.thread.parts.items
    (subst (λ (o : Option Pair). AreWalked r c.walk.table c.walk.thread.pairs.items c.walk.thread.parts.items o) c.in_default.is
    c.walk.invariant.walked)).pairs_are
