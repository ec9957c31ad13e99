-- The directories that wait are gone through, and all that are reached have flags in the end.
use Rattle.std.proofs.Common.{◌≡◌, ℕ, zero, suc, ◌<◌, Bool, false, List, [], ◌∷◌, length, get_or, map, Some, refl, ap, sym, ◌∙◌, subst, arith}
use Rattle.std.specs.Prelude.{slice_get}
use Rattle.std.proofs.lemmas.List.{length-map, length-replicate}
use Rattle.lfs_meta.specs.Body.{Pair}
use Rattle.lfs_fs.specs.Gathering.{PairPart}
use Rattle.lfs_fs.proofs.ItemLemmas.{no_elements}
use Rattle.lfs_settle.specs.InStep.{pairs_named}
use Rattle.lfs_settle.specs.Reaching.{AreListed, AreReaching, FlagsNamed}
use Rattle.lfs_settle.proofs.Reaching.{flagged_are_reached, listed_within, reaching_more, reaching_start, unflagged_are_left, waits_within}
use Rattle.lfs_settle.proofs.reached.reached.Goals as goal

got_mapped : {X Y : Type 0} (f : X → Y) (xs : List X) (i : ℕ) (x : X) → i < length xs → x ≡ get_or xs i x → slice_get (map f xs) i ≡ Some (f x)
got_mapped f [] i x within at = absurd (omega (arith, within))
got_mapped f (y ∷ xs) zero x within at = ap (λ (z : _). Some (f z)) (sym at)
got_mapped f (y ∷ xs) (suc i) x within at = got_mapped f xs i x (omega (arith, within)) at

listed_at : {X : Type 0} (f : X → List PairPart) (xs ys : List X) (table : List (Pair × ℕ)) → xs ≡ ys → AreListed (map f xs) table
    → AreListed (map f ys) table
listed_at f xs ys table same = subst (λ (zs : List _). AreListed (map f zs) table) same

as_long : {X : Type 0} (f : X → List PairPart) (xs : List X) (n : ℕ) → n ≡ length xs → n ≡ length (map f xs)
as_long f xs n is = omega (arith, is, length-map xs f)

within_mapped : {X : Type 0} (f : X → List PairPart) (xs : List X) (n i : ℕ) → n ≡ length xs → i < length (map f xs) → i < n
within_mapped f xs n i is within = omega (arith, is, within, length-map xs f)

reaching_at : (gs : List (List PairPart)) (flags : List Bool) (ks ls : List ℕ) → ks ≡ ls → AreReaching gs flags ks → AreReaching gs flags ls
reaching_at gs flags ks ls same = subst (λ (ns : List ℕ). AreReaching gs flags ns) same

named_at : (gs : List (List PairPart)) (xs ys : List Pair) (flags new : List Bool) (waiting more : List ℕ) → xs ≡ ys
    → FlagsNamed gs xs flags new waiting more → FlagsNamed gs ys flags new waiting more
named_at gs xs ys flags new waiting more same = subst (λ (ps : List Pair). FlagsNamed gs ps flags new waiting more) same

pub flag_each-requires : goal.flag_each-requires
flag_each-requires c =
    listed_within _ c.in_ok-table.table.entries (length c.in_ok-reached.reached.items)
    (listed_at _ _ c.args.groups.now.items c.in_ok-table.table.entries c.deref.ensures.value c.in_ok-table.ensures)
    (ap length (c.in_ok-reached.ensures.items_if_clones_equal (λ y same. same)) ∙ length-replicate c.len.result false
    ∙ as_long _ _ c.len.result (omega (arith, c.len.ensures, c.args.groups.now.ok)))

pub walk-init : goal.walk-init
walk-init c =
    let all = c.in_ok-reached.ensures.items_if_clones_equal (λ y same. same) in
    let len = as_long _ c.args.groups.now.items c.len.result (omega (arith, c.len.ensures, c.args.groups.now.ok)) in
    reaching_start _ c.in_ok-reached.reached.items c.flag_each.new.reached.items c.new-waiting.result.items c.flag_each.new.waiting.items
    c.len.result all c.new-waiting.ensures.items len
    (c.in_ok-flag_each.ensures _
    (listed_at _ _ c.args.groups.now.items c.in_ok-table.table.entries c.deref.ensures.value c.in_ok-table.ensures) c.requires
    (ap length all ∙ length-replicate c.len.result false ∙ len))

pub index-requires : goal.index-requires
index-requires c =
    within_mapped _ c.args.groups.now.items _ c.in-Some.number (omega (arith, c.args.groups.now.ok))
    (waits_within _ c.walk.reached.items c.pop.new.self.items c.in-Some.number
    (reaching_at _ c.walk.reached.items _ _ c.in-Some.ensures.items c.walk.invariant))

pub flag_each-requires-in-Some : goal.flag_each-requires-in-Some
flag_each-requires-in-Some c =
    listed_within _ c.in_ok-table.table.entries (length c.walk.reached.items)
    (listed_at _ _ c.args.groups.now.items c.in_ok-table.table.entries c.deref.ensures.value c.in_ok-table.ensures)
    c.walk.invariant.len

pub walk-preserved : goal.walk-preserved
walk-preserved c =
    let listed = listed_at _ _ c.args.groups.now.items c.in_ok-table.table.entries c.deref.ensures.value c.in_ok-table.ensures in
    let waits = reaching_at _ c.walk.reached.items _ _ c.in-Some.ensures.items c.walk.invariant in
    let within = within_mapped _ c.args.groups.now.items (length c.args.groups.now.items) c.in-Some.number refl
    (waits_within _ c.walk.reached.items c.pop.new.self.items c.in-Some.number waits) in
    reaching_more _ c.walk.reached.items c.flag_each-in-Some.new.reached.items c.pop.new.self.items c.flag_each-in-Some.new.waiting.items
    c.in-Some.number c.index.result.now.items
    (got_mapped _ c.args.groups.now.items c.in-Some.number c.index.result.now within c.index.ensures) waits
    (named_at _ _ _ c.walk.reached.items c.flag_each-in-Some.new.reached.items c.pop.new.self.items c.flag_each-in-Some.new.waiting.items
    (c.deref-in-Some-2.ensures.value ∙ c.in_ok-named.ensures ∙ ap pairs_named c.deref-in-Some.ensures.value)
    (c.in_ok-flag_each-2.ensures _ listed c.requires c.walk.invariant.len))

pub returns-clause-reached : goal.returns-clause-reached
returns-clause-reached c =
    flagged_are_reached _ c.walk.reached.items
    (reaching_at _ c.walk.reached.items c.walk.waiting.items []
    (no_elements c.walk.waiting.items (omega (arith, c.in_default.ensures.cases.0, c.walk.waiting.ok))) c.walk.invariant)

pub returns-clause-left : goal.returns-clause-left
returns-clause-left c =
    unflagged_are_left _ c.walk.reached.items
    (reaching_at _ c.walk.reached.items c.walk.waiting.items []
    (no_elements c.walk.waiting.items (omega (arith, c.in_default.ensures.cases.0, c.walk.waiting.ok))) c.walk.invariant)
