-- Each pair is marked and read, and its part is put after the others.
use Rattle.std.proofs.Common.{◌≡◌, [], ◌∷◌, Option, None, false, replicate, ap, sym, ◌∙◌, subst}
use Rattle.std.specs.Prelude.{IfNone, IfSome, Some}
use Rattle.std.specs.List.{AllByRecursion}
use Rattle.lfs_meta.specs.Body.{Pair}
use Rattle.lfs_meta.specs.Complete.{IsComplete}
use Rattle.lfs_fs.specs.Gathering.{PairPart}
use Rattle.lfs_fs.specs.Reading.{reading_of}
use Rattle.lfs_fs.specs.Thread.{next}
use Rattle.lfs_fs.specs.Used.{AddsBlocks, AreTaken}
use Rattle.lfs_fs.proofs.ThreadReadLemmas.{pair_within}
use Rattle.lfs_lower.proofs.GatheredParts.{marked_by, refused_by}
use Rattle.lfs_settle.specs.Walked.{AreWalked}
use Rattle.lfs_settle.proofs.Walk.{walked_all, walked_none, walked_taken, walked_unread}
use Rattle.lfs_adopt.proofs.TidiedWalk.{pairs_unread, walk_goes_on}
use Rattle.lfs_adopt.proofs.thread.read_thread.Goals as goal

pub walk-init : goal.walk-init
walk-init g c =
    walked_none (reading_of (g.B.Blocks.disk c.args.blocks.now)) c.as_mut_slice-table.result.now c.new-pairs.result.items
    c.new-parts.result.items
    (c.as_mut_slice-table.ensures.value ∙ c.in_ok-used.ensures.items_if_clones_equal (λ y same. same)
    ∙ ap (λ n. replicate n false) c.count.ensures) c.new-pairs.ensures.items c.new-parts.ensures.items

pub returns-then-is_err-clause-pairs : goal.returns-then-is_err-clause-pairs
returns-then-is_err-clause-pairs g c =
    let r = reading_of (g.B.Blocks.disk c.args.blocks.now) in
    let refused = refused_by c.mark_all.result (λ fault. AreTaken fault c.walk.table (c.in-Some.pair.0 ∷ c.in-Some.pair.1 ∷ []))
    (sym c.is_err.ensures.value ∙ c.if-is_err.true) c.mark_all.ensures.refused in
    (walked_taken r c.walk.table c.walk.pairs.items c.walk.parts.items c.in-Some.pair refused.0
    (subst (λ (o : Option Pair). AreWalked r c.walk.table c.walk.pairs.items c.walk.parts.items o) c.in-Some.is c.walk.invariant)
    refused.1).pairs_are

pub returns-then-is_err-clause-parts : goal.returns-then-is_err-clause-parts
returns-then-is_err-clause-parts g c =
    let r = reading_of (g.B.Blocks.disk c.args.blocks.now) in
    let refused = refused_by c.mark_all.result (λ fault. AreTaken fault c.walk.table (c.in-Some.pair.0 ∷ c.in-Some.pair.1 ∷ []))
    (sym c.is_err.ensures.value ∙ c.if-is_err.true) c.mark_all.ensures.refused in
    (walked_taken r c.walk.table c.walk.pairs.items c.walk.parts.items c.in-Some.pair refused.0
    (subst (λ (o : Option Pair). AreWalked r c.walk.table c.walk.pairs.items c.walk.parts.items o) c.in-Some.is c.walk.invariant)
    refused.1).parts_are

pub returns-then-is_err-clause-whole : goal.returns-then-is_err-clause-whole
returns-then-is_err-clause-whole g c =
    let r = reading_of (g.B.Blocks.disk c.args.blocks.now) in
    let refused = refused_by c.mark_all.result (λ fault. AreTaken fault c.walk.table (c.in-Some.pair.0 ∷ c.in-Some.pair.1 ∷ []))
    (sym c.is_err.ensures.value ∙ c.if-is_err.true) c.mark_all.ensures.refused in
    (walked_taken r c.walk.table c.walk.pairs.items c.walk.parts.items c.in-Some.pair refused.0
    (subst (λ (o : Option Pair). AreWalked r c.walk.table c.walk.pairs.items c.walk.parts.items o) c.in-Some.is c.walk.invariant)
    refused.1).whole_is

pub returns-then-is_err-clause-complete : goal.returns-then-is_err-clause-complete
returns-then-is_err-clause-complete g c = c.walk.invariant.complete

pub part_at-requires-clause-first : goal.part_at-requires-clause-first
part_at-requires-clause-first g c =
    let r = reading_of (g.B.Blocks.disk c.args.blocks.now) in
    let marked = marked_by c.mark_all.result (AddsBlocks c.walk.table c.mark_all.new.used (c.in-Some.pair.0 ∷ c.in-Some.pair.1 ∷ []))
    (sym c.is_err.ensures.value ∙ c.if-is_err.false) c.mark_all.ensures.marked in
    (pair_within r c.in-Some.pair c.walk.table c.mark_all.new.used c.walk.invariant.len marked).0

pub part_at-requires-clause-second : goal.part_at-requires-clause-second
part_at-requires-clause-second g c =
    let r = reading_of (g.B.Blocks.disk c.args.blocks.now) in
    let marked = marked_by c.mark_all.result (AddsBlocks c.walk.table c.mark_all.new.used (c.in-Some.pair.0 ∷ c.in-Some.pair.1 ∷ []))
    (sym c.is_err.ensures.value ∙ c.if-is_err.false) c.mark_all.ensures.marked in
    (pair_within r c.in-Some.pair c.walk.table c.mark_all.new.used c.walk.invariant.len marked).1

pub returns-in_default-2-clause-pairs : goal.returns-in_default-2-clause-pairs
returns-in_default-2-clause-pairs g c =
    let r = reading_of (g.B.Blocks.disk c.args.blocks.now) in
    let marked = marked_by c.mark_all.result (AddsBlocks c.walk.table c.mark_all.new.used (c.in-Some.pair.0 ∷ c.in-Some.pair.1 ∷ []))
    (sym c.is_err.ensures.value ∙ c.if-is_err.false) c.mark_all.ensures.marked in
    pairs_unread r c.walk.table c.mark_all.new.used c.walk.pairs.items _ c.walk.parts.items c.in-Some.pair
    (subst (λ (o : Option Pair). AreWalked r c.walk.table c.walk.pairs.items c.walk.parts.items o) c.in-Some.is c.walk.invariant) marked
    (subst (λ (o : Option PairPart). IfNone o (r.part c.in-Some.pair ≡ None)) c.in_default-2.is c.in_ok-part.ensures.none)
    c.in_ok-push.ensures.items

pub returns-in_default-2-clause-parts : goal.returns-in_default-2-clause-parts
returns-in_default-2-clause-parts g c =
    let r = reading_of (g.B.Blocks.disk c.args.blocks.now) in
    let marked = marked_by c.mark_all.result (AddsBlocks c.walk.table c.mark_all.new.used (c.in-Some.pair.0 ∷ c.in-Some.pair.1 ∷ []))
    (sym c.is_err.ensures.value ∙ c.if-is_err.false) c.mark_all.ensures.marked in
    (walked_unread r c.walk.table c.walk.pairs.items c.walk.parts.items c.in-Some.pair c.mark_all.new.used
    (subst (λ (o : Option Pair). AreWalked r c.walk.table c.walk.pairs.items c.walk.parts.items o) c.in-Some.is c.walk.invariant) marked
    (subst (λ (o : Option PairPart). IfNone o (r.part c.in-Some.pair ≡ None)) c.in_default-2.is c.in_ok-part.ensures.none)).parts_are

pub returns-in_default-2-clause-whole : goal.returns-in_default-2-clause-whole
returns-in_default-2-clause-whole g c =
    let r = reading_of (g.B.Blocks.disk c.args.blocks.now) in
    let marked = marked_by c.mark_all.result (AddsBlocks c.walk.table c.mark_all.new.used (c.in-Some.pair.0 ∷ c.in-Some.pair.1 ∷ []))
    (sym c.is_err.ensures.value ∙ c.if-is_err.false) c.mark_all.ensures.marked in
    (walked_unread r c.walk.table c.walk.pairs.items c.walk.parts.items c.in-Some.pair c.mark_all.new.used
    (subst (λ (o : Option Pair). AreWalked r c.walk.table c.walk.pairs.items c.walk.parts.items o) c.in-Some.is c.walk.invariant) marked
    (subst (λ (o : Option PairPart). IfNone o (r.part c.in-Some.pair ≡ None)) c.in_default-2.is c.in_ok-part.ensures.none)).whole_is

pub returns-in_default-2-clause-complete : goal.returns-in_default-2-clause-complete
returns-in_default-2-clause-complete g c = c.walk.invariant.complete

pub walk-preserved : goal.walk-preserved
walk-preserved g c =
    let r = reading_of (g.B.Blocks.disk c.args.blocks.now) in
    let pair = c.in-Some.pair in
    let part : PairPart = c.in-Some-2.part in
    let marked = marked_by c.mark_all.result (AddsBlocks c.walk.table c.mark_all.new.used (pair.0 ∷ pair.1 ∷ []))
    (sym c.is_err.ensures.value ∙ c.if-is_err.false) c.mark_all.ensures.marked in
    walk_goes_on r c.walk.table c.mark_all.new.used c.walk.pairs.items _ c.walk.parts.items _ pair part _
    (subst (λ (o : Option Pair). AreWalked r c.walk.table c.walk.pairs.items c.walk.parts.items o) c.in-Some.is c.walk.invariant) marked
    (subst (λ (o : Option PairPart). IfSome o (λ p. p.0 ≡ pair)) c.in-Some-2.is c.in_ok-part.ensures.pair)
    (subst (λ (o : Option PairPart). IfSome o (λ p. r.part pair ≡ Some p.1)) c.in-Some-2.is c.in_ok-part.ensures.found)
    (subst (λ (o : Option PairPart). IfSome o (λ p. AllByRecursion IsComplete p.1.entries)) c.in-Some-2.is c.in_ok-part.ensures.complete)
    c.in_ok-push.ensures.items c.in_ok-push-2.ensures.items
    (c.next_pair-next.ensures ∙ ap (λ (p : PairPart). next p.1.tail) c.part.view_is)

pub returns-clause-pairs : goal.returns-clause-pairs
returns-clause-pairs g c =
    let r = reading_of (g.B.Blocks.disk c.args.blocks.now) in
    let walked = subst (λ (o : Option Pair). AreWalked r c.walk.table c.walk.pairs.items c.walk.parts.items o) c.in_default.is
    c.walk.invariant in
    (walked_all r c.walk.table c.walk.pairs.items c.walk.parts.items walked).pairs_are

pub returns-clause-parts : goal.returns-clause-parts
returns-clause-parts g c =
    let r = reading_of (g.B.Blocks.disk c.args.blocks.now) in
    let walked = subst (λ (o : Option Pair). AreWalked r c.walk.table c.walk.pairs.items c.walk.parts.items o) c.in_default.is
    c.walk.invariant in
    (walked_all r c.walk.table c.walk.pairs.items c.walk.parts.items walked).parts_are

pub returns-clause-whole : goal.returns-clause-whole
returns-clause-whole g c =
    let r = reading_of (g.B.Blocks.disk c.args.blocks.now) in
    let walked = subst (λ (o : Option Pair). AreWalked r c.walk.table c.walk.pairs.items c.walk.parts.items o) c.in_default.is
    c.walk.invariant in
    (walked_all r c.walk.table c.walk.pairs.items c.walk.parts.items walked).whole_is

pub returns-clause-complete : goal.returns-clause-complete
returns-clause-complete g c = c.walk.invariant.complete
