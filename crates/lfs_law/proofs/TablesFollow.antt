-- A table of used blocks follows a command: what it takes comes, what it removes or replaces goes.
use Rattle.std.proofs.Common.{◌≡◌, ℕ, ◌+◌, ◌<◌, zero, suc, List, length, ap, sym, ◌∙◌, arith}
use Rattle.lfs_meta.specs.Body.{Pair}
use Rattle.lfs_meta.specs.RunLaws.{RunsJoin}
use Rattle.lfs_fs.specs.NameOrder.{NamesAreOrdered}
use Rattle.lfs_fs.specs.Directory.{Part}
use Rattle.lfs_fs.specs.Entry.{Entry}
use Rattle.lfs_fs.specs.Used.{marked}
use Rattle.lfs_fs.specs.Uses.{times, uses}
use Rattle.lfs_fs.specs.Volume.{Volume}
use Rattle.lfs_command.specs.Cut.{cut, new_pair_uses}
use Rattle.lfs_command.specs.Edited.{edited}
use Rattle.lfs_command.specs.Growth.{count_after}
use Rattle.lfs_command.specs.Supplies.{Supplies, supply_uses}
use Rattle.lfs_law.specs.TablesFollow.{TablesFollow}
use Rattle.lfs_law.proofs.Cleans.{clean_uses_all}
use Rattle.lfs_law.proofs.CutsFollow.{cuts_follow, uses_after}
use Rattle.lfs_law.proofs.LeastTaken.{least_taken}

either_within : (x y b n : ℕ) → (0 < x → b < n) → (0 < y → b < n) → 0 < x + y → b < n
either_within zero y b n first later some = later (omega (arith, some))
either_within (suc x) y b n first later some = first (omega arith)

pub tables_follow : NamesAreOrdered → RunsJoin Entry → TablesFollow
tables_follow ordered join c v w carries used table taken gone least freed = record {
  free = record {
    within = λ b some.
        let here : b < count_after c v.count =
        either_within (supply_uses v c s b) (new_pair_uses chosen (edited v c s) b) b (count_after c v.count)
        (carries.accepted.free.within b) (carries.pairs.within b) (omega (arith, taken_is b, some)) in
        omega (arith, here, long);
    once = λ b. omega (arith, marks b, taken_is b, carries.pairs.once b);
  };
  marked = λ more adds b. omega (arith, after b, marks b, adds.marks b);
  table = λ more new adds gives. record {
    len = omega (arith, long, counted, adds.len, gives.len);
    marks = λ b. omega (arith, after b, marks b, adds.marks b, gives.marks b);
  };
}
  where
    s : Supplies
    s = carries.supplies

    chosen : Part → List Pair
    chosen = carries.chosen

    long : length used ≡ count_after c v.count
    long = table.len

    marks : (b : ℕ) → marked used b ≡ uses b v
    marks b = table.marks b

    counted : w.count ≡ count_after c v.count
    counted = ap (λ (x : Volume). x.count) carries.is ∙ (cuts_follow ordered join v c s chosen carries.accepted carries.pairs).count

    -- what is taken are the supplies and the new pairs
    taken_is : (b : ℕ) → times b taken ≡ supply_uses v c s b + new_pair_uses chosen (edited v c s) b
    taken_is b = ap (times b) least ∙ sym (least_taken v c s chosen carries.pairs.enough carries.ordered b)

    after : (b : ℕ) → uses b w + times b gone ≡ uses b v + times b taken
    after b =
        let is : uses b w ≡ uses b (cut chosen (edited v c s)) = ap (uses b) carries.is ∙ clean_uses_all b (cut chosen (edited v c s)) in
        omega (arith, is, freed b, taken_is b, uses_after ordered join v c s chosen carries.accepted carries.pairs b)
