-- Each step is one of the definition.
use Rattle.std.proofs.Common.{◌≡◌, ℕ, Bool, List, map, ap, sym, ◌∙◌, subst}
use Rattle.std.specs.Prelude.{flat_map}
use Rattle.lfs_fs.specs.Gathering.{PairPart, delta_from}
use Rattle.lfs_settle.specs.Ended.{as_dropped, first_moved}
use Rattle.lfs_settle.specs.Moved.{unmoved}
use Rattle.lfs_settle.specs.Reached.{groups, reached_of, unreached_of}
use Rattle.lfs_settle.specs.Reaching.{AreApart, flagged}
use Rattle.lfs_settle.specs.Settled.{cleared, threaded}
use Rattle.lfs_settle.proofs.DroppedGroups.{told}
use Rattle.lfs_settle.proofs.SettledFrom.{groups_apart}
use Rattle.lfs_settle.proofs.settled_parts.settled_parts.Goals as goal

flags_at : (gs : List (List PairPart)) (fs flags : List Bool) → fs ≡ flags → threaded (flagged fs gs) ≡ threaded (flagged flags gs)
flags_at gs fs flags same = ap (λ (xs : List Bool). threaded (flagged xs gs)) same

unflagged_at : (gs : List (List PairPart)) (fs flags : List Bool) → fs ≡ flags → told fs gs ≡ told flags gs
unflagged_at gs fs flags same = ap (λ (xs : List Bool). told xs gs) same

pub reached-requires : goal.reached-requires
reached-requires c =
    let state : c.state_of-state.result ≡ delta_from c.args.parts.items = c.state_of-state.ensures ∙ ap delta_from c.deref.ensures.value in
    let left : c.unmove-moved.new.parts.items ≡ map (unmoved (delta_from c.args.parts.items)) c.args.parts.items =
    c.unmove-moved.ensures.left ∙ ap (λ (n : ℕ). map (unmoved n) c.args.parts.items) state in
    subst AreApart (sym (c.in_ok-groups.ensures ∙ ap groups left)) (groups_apart (delta_from c.args.parts.items) c.args.parts.items c.requires)

pub returns-clause-parts : goal.returns-clause-parts
returns-clause-parts c =
    let state : c.state_of-state.result ≡ delta_from c.args.parts.items = c.state_of-state.ensures ∙ ap delta_from c.deref.ensures.value in
    let left : c.unmove-moved.new.parts.items ≡ map (unmoved (delta_from c.args.parts.items)) c.args.parts.items =
    c.unmove-moved.ensures.left ∙ ap (λ (n : ℕ). map (unmoved n) c.args.parts.items) state in
    c.clear.ensures
    ∙ ap cleared (c.in_ok-thread.ensures.thread
    ∙ flags_at _ _ _ c.deref-2.ensures.value
    ∙ ap threaded (c.in_ok-flags.ensures.reached ∙ ap reached_of (c.in_ok-groups.ensures ∙ ap groups left)))

pub returns-clause-moved : goal.returns-clause-moved
returns-clause-moved c =
    c.unmove-moved.ensures.moved
    ∙ ap (λ (n : ℕ). first_moved n c.args.parts.items) (c.state_of-state.ensures ∙ ap delta_from c.deref.ensures.value)

pub returns-clause-dropped : goal.returns-clause-dropped
returns-clause-dropped c =
    let state : c.state_of-state.result ≡ delta_from c.args.parts.items = c.state_of-state.ensures ∙ ap delta_from c.deref.ensures.value in
    let left : c.unmove-moved.new.parts.items ≡ map (unmoved (delta_from c.args.parts.items)) c.args.parts.items =
    c.unmove-moved.ensures.left ∙ ap (λ (n : ℕ). map (unmoved n) c.args.parts.items) state in
    c.in_ok-thread.ensures.dropped
    ∙ unflagged_at _ _ _ c.deref-2.ensures.value
    ∙ ap (flat_map as_dropped) (c.in_ok-flags.ensures.left ∙ ap unreached_of (c.in_ok-groups.ensures ∙ ap groups left))
