-- Places that wait in a walk.
use Rattle.std.proofs.Common.{◌≡◌, List, [], ◌∷◌, ◌++◌, reverse, refl, ap, sym, ◌∙◌, subst, Option, Some, None, Result, Ok, Err, OnOk, OnErr}
use Rattle.std.specs.List.{AllByRecursion}
use Rattle.std.proofs.lemmas.List.{reverse-append}
use Rattle.lfs_fs.specs.declared.place.Place.{Place}
use Rattle.lfs_fs.specs.declared.waiting_entries.WaitingEntries.{WaitingEntries}
use Rattle.lfs_fs.specs.Waiting.{IsWaiting, TakesNext}

-- there is at least one of each
abbrev pub AreWaiting : List WaitingEntries → Type 0
AreWaiting ws = AllByRecursion IsWaiting (reverse ws)

-- entries that are put behind others wait before them
put_first : (ws vs : List WaitingEntries) (w : WaitingEntries) → vs ≡ ws ++ w ∷ [] → reverse vs ≡ w ∷ reverse ws
put_first ws vs w is = ap reverse is ∙ reverse-append ws (w ∷ [])

pub are_more : (ws vs : List WaitingEntries) (w : WaitingEntries) → vs ≡ ws ++ w ∷ [] → IsWaiting w → AreWaiting ws → AreWaiting vs
are_more ws vs w is one all = subst (AllByRecursion IsWaiting) (sym (put_first ws vs w is)) (one, all)

-- of what is taken off
pub are_fewer : (ws vs : List WaitingEntries) (w : WaitingEntries) → ws ≡ vs ++ w ∷ [] → AreWaiting ws → IsWaiting w × AreWaiting vs
are_fewer ws vs w is all = subst (AllByRecursion IsWaiting) (put_first vs ws w is) all

pub are_pushed : {E : Type 0} (ws vs : List WaitingEntries) (w : WaitingEntries) (reply : Result (Unit {0}) E) → IsWaiting w → AreWaiting ws
    → OnOk reply (vs ≡ ws ++ w ∷ []) → OnErr reply (vs ≡ ws) → AreWaiting vs
are_pushed ws vs w (Ok unit) one all more same = are_more ws vs w more one all
are_pushed ws vs w (Err fault) one all more same = subst AreWaiting (sym same) all

-- where no place is taken, none waits
pub none_waits : (place : Option Place) (old new : List Place) → ((x : Place) → place ≡ Some x → ⊥) → TakesNext place old new → old ≡ []
none_waits None old new none taken = taken.0
none_waits (Some x) old new none taken = absurd (none x refl)
