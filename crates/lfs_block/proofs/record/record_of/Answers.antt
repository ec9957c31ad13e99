use Rattle.std.proofs.Common.{rules, of_calls, ◌≡◌, ◌<◌, ◌≤◌, List, [], length, nat_lt, slice_index_or, option_map, Some, sym, ap}
use Rattle.std.proofs.Common.{◌∙◌}
use Rattle.std.proofs.lemmas.Fn.{always_returns_same}
use Rattle.lfs_block.specs.Change.{Change, IsRising}
use Rattle.lfs_block.proofs.ChangeLemmas.{found-at, missing-at, missing-past, point-of, rising-parted}
use Rattle.lfs_block.proofs.record.record_of.Goals as goal

none : Change
none = record { number = 0; old = []; new = [] }

pub returns-in_err-record : goal.returns-in_err-record
returns-in_err-record c =
    let cs : List Change = c.args.records.now in
    let rising : IsRising cs = c.requires in
    let point = point-of cs c.args.n c.partition_point-at.result
    (c.partition_point-at.ensures.partitioned (λ t. nat_lt t.number c.args.n)
    (always_returns_same _ _ _ (λ a r f k. search (rules, of_calls))) (rising-parted cs c.args.n rising)) in
    let past : length cs ≤ c.partition_point-at.result = search rules in
    ap (option_map (λ r. r.now)) c.from_residual.ensures
    ∙ sym (missing-past cs c.args.n c.partition_point-at.result none point past)

pub returns-then-record-n : goal.returns-then-record-n
returns-then-record-n c =
    let cs : List Change = c.args.records.now in
    let rising : IsRising cs = c.requires in
    let point = point-of cs c.args.n c.partition_point-at.result
    (c.partition_point-at.ensures.partitioned (λ t. nat_lt t.number c.args.n)
    (always_returns_same _ _ _ (λ a r f k. search (rules, of_calls))) (rising-parted cs c.args.n rising)) in
    let within : c.partition_point-at.result < length cs = search rules in
    let at : c.in_ok-record.record.now ≡ slice_index_or cs c.partition_point-at.result none = search rules in
    let is : c.in_ok-record.record.now.number ≡ c.args.n =
    ap (λ (r : Change). r.number) (sym c.record.view_is) ∙ c.if-record-n.true in
    ap Some at
    ∙ sym (found-at cs c.args.n c.partition_point-at.result none point within (ap (λ (r : Change). r.number) (sym at) ∙ is))

pub returns-else-record-n : goal.returns-else-record-n
returns-else-record-n c =
    let cs : List Change = c.args.records.now in
    let rising : IsRising cs = c.requires in
    let point = point-of cs c.args.n c.partition_point-at.result
    (c.partition_point-at.ensures.partitioned (λ t. nat_lt t.number c.args.n)
    (always_returns_same _ _ _ (λ a r f k. search (rules, of_calls))) (rising-parted cs c.args.n rising)) in
    let within : c.partition_point-at.result < length cs = search rules in
    let at : c.in_ok-record.record.now ≡ slice_index_or cs c.partition_point-at.result none = search rules in
    let number : c.record.inside.number ≡ (slice_index_or cs c.partition_point-at.result none).number =
    ap (λ (r : Change). r.number) c.record.view_is ∙ ap (λ (r : Change). r.number) at in
    sym (missing-at cs c.args.n c.partition_point-at.result none rising point within (λ is. c.if-record-n.false (number ∙ is)))
