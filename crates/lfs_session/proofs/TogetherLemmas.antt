-- A list of commands that isn't empty, and a session.
use Rattle.std.proofs.Common.{◌≡◌, ◌≢◌, ℕ, ◌≤◌, List, [], ◌∷◌, length, map, Option, Some, None, Result, Ok, Err, true, false, refl, subst}
use Rattle.std.specs.Option.{is_none}
use Rattle.std.specs.Result.{OnOk, is_err, is_ok}
use Rattle.lfs_block.specs.Disk.{Disk}
use Rattle.lfs_block.specs.Patch.{ChangeSet}
use Rattle.lfs_journal.specs.Book.{most_changes}
use Rattle.lfs_command.specs.AskedFor.{OnTexts, asked_for}
use Rattle.lfs_command.specs.declared.refusal.Refusal.TheVariants.{Memory}
use Rattle.lfs_history.specs.History.{History, IsHistoryAt, IsMounted, history_at}
use Rattle.lfs_history.specs.Moves.{kept_changes}
use Rattle.lfs_history.specs.Place.{HasPlace}
use Rattle.lfs_history.specs.Together.{DoesSome, DoesTogether, IsFullFor, RefusesTogether}
use Rattle.lfs_history.specs.TogetherLaws.{TogetherIsOneByOne}
use Rattle.lfs_history.proofs.MoveLemmas.{Make}
use Rattle.lfs_session.specs.Joining.{AreJoined}
use Rattle.lfs_session.proofs.PlaceLemmas.{IsPut, MovesTo, pushed_at}

-- what a call says that succeeds
pub on_ok : {E P : Type 0} (r : Result (Unit {0}) E) → is_ok r ≡ true → OnOk r P → P
on_ok (Ok x) ok on = on
on_ok (Err e) ok on = cc

pub on_no_err : {E P : Type 0} (r : Result (Unit {0}) E) → is_err r ≡ false → OnOk r P → P
on_no_err (Ok x) ok on = on
on_no_err (Err e) ok on = cc

-- memory may be wanting at the first
pub refused_first : (d : Disk) (commands : List OnTexts) → commands ≢ [] → RefusesTogether d (map asked_for commands) 0 Memory
refused_first d [] some = absurd (some refl)
refused_first d (c ∷ commands) some = record {
  before = [];
  next = asked_for c;
  behind = map asked_for commands;
  are = refl;
  place = refl;
  changes = [];
  plans = tt;
  refused = tt;
}

-- some are done
pub does_some : (commands : List OnTexts) (keep : Option ℕ) (old new : History) → commands ≢ []
    → DoesSome (map asked_for commands) keep old new → DoesTogether (map asked_for commands) keep old new
does_some [] keep old new some does = absurd (some refl)
does_some (c ∷ commands) keep old new some does = does

-- what is kept then is all that is left, and their change is in front
pub together_at : Make → TogetherIsOneByOne → (commands : List OnTexts) (keep : Option ℕ) (d e : Disk) (old new kept : List ChangeSet)
    (i j : ℕ) (p : ChangeSet) → commands ≢ [] → IsPut old new i p → kept ≡ kept_changes keep new → j ≡ length kept
    → IsHistoryAt d old i → HasPlace keep (history_at d old i) → AreJoined d (map asked_for commands) (Some p) e → IsMounted e
    → MovesTo (DoesTogether (map asked_for commands) keep) (history_at d old i) e kept j
together_at law one_by_one commands keep d e old new kept i j p some put latest_are many h place joined mounts =
    let one = one_by_one d (map asked_for commands) p joined.0 h.history.disk in
    let to = pushed_at law keep d e old new kept i j p put latest_are many h place one.growth one.stands (subst IsMounted joined.1 mounts)
    joined.1 in
    record {
      moves = does_some commands keep (history_at d old i) (history_at e kept j) some
          (record { room = place; change = p; plans = joined.0; pushes = to.moves });
      keeps = to.keeps;
    }

-- there is no room for them
pub full_for : (commands : List OnTexts) (keep : Option ℕ) (h : History) → commands ≢ [] → is_none keep ≡ true
    → most_changes ≤ length h.done → IsFullFor (map asked_for commands) keep h
full_for [] keep h some none many = absurd (some refl)
full_for (c ∷ commands) None h some none many = many
full_for (c ∷ commands) (Some n) h some none many = cc
