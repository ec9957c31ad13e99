-- The change of the block stands at the point, or none does.
use Rattle.std.proofs.Common.{rules, of_calls, ◌≡◌, ◌≢◌, ◌<◌, ◌≤◌, ℕ, List, length, nat_lt, slice_index_or}
use Rattle.std.proofs.Common.{slice_set, sym, ap, subst, ◌∙◌, arith}
use Rattle.std.specs.List.{insert}
use Rattle.std.proofs.lemmas.Fn.{always_returns_same}
use Rattle.std.proofs.lemmas.List.{get_or_default}
use Rattle.lfs_block.specs.Change.{Change, IsRising}
use Rattle.lfs_block.proofs.ChangeLemmas.{IsPoint, point-of, rising-parted}
use Rattle.lfs_journal.specs.Joined.{joined}
use Rattle.lfs_journal.proofs.PlaceLemmas.{laid-between, laid-into}
use Rattle.lfs_journal.proofs.laying.lay.Goals as goal
use Rattle.lfs_journal.proofs.laying.lay.Goals.{else-at-len-via-then-at-len+else-index-change, else-at-len-via-else-at-len}

pub returns-then-index-change-clause-laid : goal.returns-then-index-change-clause-laid
returns-then-index-change-clause-laid c =
    let cs : List Change = c.args.records.now.items in
    let d : Change = c.args.change in
    let i : ℕ = c.partition_point-at.result in
    let r : Change = c.index_mut.result.now in
    let seen : c.deref.result.now ≡ cs = c.deref.ensures.value in
    let point : IsPoint cs d.number i = subst (λ (es : List Change). IsPoint es d.number i) seen
    (point-of c.deref.result.now d.number i
    (c.partition_point-at.ensures.partitioned (λ t. nat_lt t.number d.number)
    (always_returns_same _ _ _ (λ a r f k. search (rules, of_calls)))
    (rising-parted c.deref.result.now d.number (subst IsRising (sym seen) c.requires.rising)))) in
    let within : i < length cs = omega arith in
    let same : (slice_index_or cs i r).number ≡ d.number =
    ap (λ (x : Change). x.number) (get_or_default cs i r c.index.result.now within ∙ sym c.index.ensures ∙ sym c.behind-records.view_is)
    ∙ c.if-index-change.true ∙ ap (λ (x : Change). x.number) c.change.view_is in
    ap (slice_set cs i) c.join.ensures
    ∙ ap (λ (x : Change). slice_set cs i (joined x d)) c.index_mut.ensures.value
    ∙ laid-into cs d r i point within same

pub returns-clause-laid : goal.returns-clause-laid
returns-clause-laid c =
    let cs : List Change = c.args.records.now.items in
    let d : Change = c.args.change in
    let i : ℕ = c.partition_point-at.result in
    let seen : c.deref.result.now ≡ cs = c.deref.ensures.value in
    let point : IsPoint cs d.number i = subst (λ (es : List Change). IsPoint es d.number i) seen
    (point-of c.deref.result.now d.number i
    (c.partition_point-at.ensures.partitioned (λ t. nat_lt t.number d.number)
    (always_returns_same _ _ _ (λ a r f k. search (rules, of_calls)))
    (rising-parted c.deref.result.now d.number (subst IsRising (sym seen) c.requires.rising)))) in
    let most : i ≤ length cs = omega (arith, c.partition_point-at.ensures.bound, ap length seen) in
    let put : c.insert-put.new.self.items ≡ insert cs i d = search rules in
    let other : i < length cs → (slice_index_or cs i d).number ≢ d.number = λ within same. elim c.else-at-len.branch [
      | else-at-len-via-then-at-len+else-index-change w ↦
          w.if-index-change.false (ap (λ (x : Change). x.number) (w.behind-records.view_is ∙ w.index.ensures
          ∙ get_or_default cs i w.index.result.now d within) ∙ same ∙ sym (ap (λ (x : Change). x.number) c.change.view_is))
      | else-at-len-via-else-at-len w ↦ absurd (omega arith)
    ] in
    put ∙ laid-between cs d d i point most other
