-- What failed did so since the host has refused a call.
use Rattle.std.proofs.Common.{◌≡◌, Bool, true, false, Option, Some, None, refl, subst, sym}
use Rattle.std.specs.Prelude.{IfSome}
use Rattle.lfs_host.specs.HostCall.{HostCall}
use Rattle.lfs_host.specs.Scene.{HasRefused, KeepsRefusals, Notes, Scene, is_blamed}

-- a failure that is noted
pub noted_is_blamed : (failed : Bool) (call : HostCall) (old new : Scene) → Notes call failed old new → is_blamed failed new.refused call ≡ true
noted_is_blamed false call old new notes = refl
noted_is_blamed true call old new notes = by new.refused notes.0
  where
    by : (refused : Option (HostCall → Bool)) → IfSome refused (λ of. of call ≡ true) → is_blamed true refused call ≡ true
    by None is = refl
    by (Some of) is = is

-- what failed and is blamed
pub blamed_has_refused : (failed : Bool) (call : HostCall) (scene : Scene) → failed ≡ true → is_blamed failed scene.refused call ≡ true
    → HasRefused scene call
blamed_has_refused false call scene is blamed = absurd (cc)
blamed_has_refused true call scene is blamed = by scene.refused blamed
  where
    by : (refused : Option (HostCall → Bool)) → is_blamed true refused call ≡ true → IfSome refused (λ of. of call ≡ true)
    by None is = tt
    by (Some of) is = is

-- what was refused before a call stays so
pub same_keeps : (old new : Scene) → new.refused ≡ old.refused → KeepsRefusals old new
same_keeps old new same other is = subst (λ (r : Option (HostCall → Bool)). IfSome r (λ of. of other ≡ true)) (sym same) is

pub noted_keeps : (failed : Bool) (call : HostCall) (old new : Scene) → Notes call failed old new → KeepsRefusals old new
noted_keeps true call old new notes = notes.1
noted_keeps false call old new same = same_keeps old new same

-- a call that is noted was refused
pub noted_refused : (failed : Bool) (call : HostCall) (old new : Scene) → failed ≡ true → Notes call failed old new → HasRefused new call
noted_refused true call old new is notes = notes.0
noted_refused false call old new is notes = absurd cc
