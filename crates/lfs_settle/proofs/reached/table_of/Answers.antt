-- One directory more.
use Rattle.std.proofs.Common.{◌≡◌, ℕ, ◌+◌, ◌<◌, List, Some, ap, ◌∙◌, sym, arith, get_or, map, length, take}
use Rattle.std.specs.Prelude.{cond}
use Rattle.std.proofs.lemmas.List.{get_or-map, length-map}
use Rattle.lfs_meta.specs.Body.{Pair}
use Rattle.lfs_fs.specs.DirectoryTable.{look_up}
use Rattle.lfs_fs.specs.Gathering.{PairPart}
use Rattle.lfs_settle.specs.Reaching.{AreListed, begins_with}
use Rattle.lfs_settle.proofs.Reaching.{listed_more}
use Rattle.lfs_settle.proofs.reached.table_of.Goals as goal

-- the next item of a list that is mapped
next_mapped : {X Y : Type 0} (f : X → Y) (xs : List X) (i : ℕ) (x : X) → i < length xs → x ≡ get_or xs i x → f x ≡ get_or (map f xs) i (f x)
next_mapped f xs i x within at = ap f at ∙ sym (get_or-map f xs i x (f x) within)

listed_next : {X : Type 0} (f : X → List PairPart) (xs : List X) (i number : ℕ) (x : X) (g : List PairPart) (table after : List (Pair × ℕ))
    → i < length xs → x ≡ get_or xs i x → number ≡ i → g ≡ f x
    → ((k : Pair) → look_up k after ≡ cond (begins_with k g) (Some number) (look_up k table)) → AreListed (take i (map f xs)) table
    → AreListed (take (i + 1) (map f xs)) after
listed_next f xs i number x g table after within at same is updates h =
    listed_more (map f xs) i (f x) table after (omega (arith, within, length-map xs f)) (next_mapped f xs i x within at)
    (λ k. updates k ∙ ap (λ (n : ℕ). cond (begins_with k g) (Some n) (look_up k table)) same
    ∙ ap (λ (y : List PairPart). cond (begins_with k y) (Some i) (look_up k table)) is) h

pub loop-group-preserved : goal.loop-group-preserved
loop-group-preserved c = record {
  number = omega (arith, c.loop-group.invariant.number);
  listed = listed_next _ _ _ c.loop-group.number c.group-item.result c.deref.result.now c.loop-group.table.entries c.list_group.new.table.entries
      c.loop-group-test.true c.group-item.is c.loop-group.invariant.number c.deref.ensures.value c.in_ok-list_group.ensures
      c.loop-group.invariant.listed;
}
