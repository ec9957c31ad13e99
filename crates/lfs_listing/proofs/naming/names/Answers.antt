use Rattle.std.proofs.Common.{rules, of_calls, ◌≡◌, ◌<◌, ◌≤◌, List, [], length, nat_lt, nat_eq, slice_index_or, ap, ◌∙◌}
use Rattle.std.proofs.lemmas.Fn.{always_returns_same}
use Rattle.lfs_block.specs.Change.{Change, IsRising}
use Rattle.lfs_block.proofs.ChangeLemmas.{point-of, rising-parted}
use Rattle.lfs_listing.proofs.NamingLemmas.{named_at, unnamed_past}
use Rattle.lfs_listing.proofs.naming.names.Goals as goal

none : Change
none = record { number = 0; old = []; new = [] }

pub returns-in-Some : goal.returns-in-Some
returns-in-Some c =
    let cs : List Change = c.args.records.now in
    let rising : IsRising cs = c.requires in
    let point = point-of cs c.args.n c.partition_point-at.result
    (c.partition_point-at.ensures.partitioned (λ t. nat_lt t.number c.args.n)
    (always_returns_same _ _ _ (λ a r f k. search (rules, of_calls))) (rising-parted cs c.args.n rising)) in
    let within : c.partition_point-at.result < length cs = search rules in
    let at : c.in-Some.record.now ≡ slice_index_or cs c.partition_point-at.result none = search rules in
    ap (λ (r : Change). nat_eq r.number c.args.n) (c.record.view_is ∙ at)
    ∙ named_at cs c.args.n c.partition_point-at.result none rising point within

pub returns-in-None : goal.returns-in-None
returns-in-None c =
    let cs : List Change = c.args.records.now in
    let rising : IsRising cs = c.requires in
    let point = point-of cs c.args.n c.partition_point-at.result
    (c.partition_point-at.ensures.partitioned (λ t. nat_lt t.number c.args.n)
    (always_returns_same _ _ _ (λ a r f k. search (rules, of_calls))) (rising-parted cs c.args.n rising)) in
    let past : length cs ≤ c.partition_point-at.result = search rules in
    unnamed_past cs c.args.n c.partition_point-at.result none point past
