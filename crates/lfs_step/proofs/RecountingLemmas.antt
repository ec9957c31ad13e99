-- What is answered of the changes in a journal.
use Rattle.std.proofs.Common.{◌≡◌, ◌≢◌, ℕ, List, [], ◌∷◌, Option, Result, Ok, Err, IfErr, IfOk, Bool, true, false, None, Some, length, refl, sym, ap, subst, ◌∙◌}
use Rattle.std.proofs.Common.{arith}
use Rattle.std.proofs.lemmas.Bool.{eqb-true}
use Rattle.std.specs.Prelude.{◌==◌, if◌then◌else◌, unwrap_or}
use Rattle.std.specs.Global.{Vec}
use Rattle.std.specs.Result.{result_err}
use Rattle.lfs_block.specs.Disk.{Disk, IsDisk}
use Rattle.lfs_fs.specs.Mounted.{MountedValue, IsMountOf}
use Rattle.lfs_history.specs.declared.open_fault.OpenFault.{OpenFault}
use Rattle.lfs_history.specs.History.{History, fresh_history}
use Rattle.lfs_history.specs.Opening.{Opens}
use Rattle.lfs_json.specs.declared.form.Form.{Form}
use Rattle.lfs_request.specs.declared.fault.Fault.{Fault}
use Rattle.lfs_request.specs.declared.fault.Fault.TheVariants as fault
use Rattle.lfs_change.proofs.ChangeLemmas.{opened_denotes}
use Rattle.lfs_step.proofs.HistoriesLeft.{fresh_is}
use Rattle.lfs_step.specs.Log.{IsHistoryLog}
use Rattle.lfs_step.specs.Recounting.{IsRecount, RefusesRecount}

-- ---- the text

-- a journal that is there is told as its history
pub log_told : (form : Form) (d : Disk) (journal : List ℕ) (r : Result (Vec ℕ) OpenFault) → journal ≢ []
    → IfOk r (λ text. (h : History) × Opens d journal h × IsHistoryLog form h text.items) → IfOk r (λ text. IsRecount form d journal text.items)
log_told form d journal (Ok text) some (h, opens, log) =
    record { history = h; denotes = opened_denotes d journal h some opens; log = log }
log_told form d journal (Err f) some told = tt

-- without any, nothing was done to the image
pub nothing_told : (form : Form) (d : Disk) (m : MountedValue) → IsDisk d → IsMountOf d m → IsRecount form d [] []
nothing_told form d m is mount = record {
  history = fresh_history d;
  denotes = (refl, fresh_is d is (mount.volume, mount.holds, mount.sound));
  log = record { mounts = m ∷ []; are = (mount, tt); text_is = refl };
}

-- ---- what is told of it

-- bytes of which there are none
no_bytes : (bytes : List ℕ) (is_none : Bool) → is_none ≡ length bytes == 0 → is_none ≡ true → [] ≡ bytes
no_bytes [] is_none is none = refl
no_bytes (byte ∷ bytes) is_none is none =
    let zero_long : length (byte ∷ bytes) ≡ 0 = eqb-true (length (byte ∷ bytes)) 0 (sym is ∙ none) in
    absurd (omega (arith, zero_long))

pub empty_told : (form : Form) (d : Disk) (journal text : List ℕ) (m : MountedValue) (is_none : Bool) → is_none ≡ length journal == 0 → is_none ≡ true
    → text ≡ [] → IsDisk d → IsMountOf d m → IsRecount form d journal text
empty_told form d journal text m is_none is none empty disk mount =
    subst (λ (j : List ℕ). IsRecount form d j text) (no_bytes journal is_none is none)
    (subst (λ (t : List ℕ). IsRecount form d [] t) (sym empty) (nothing_told form d m disk mount))

-- a text that didn't go out as a whole is told as that
pub recount_unsent : (form : Form) (d : Disk) (journal text : List ℕ) (r : Result (Unit {0}) Fault) (complete : Bool)
    → result_err r ≡ (if complete then None else Some fault.CannotWrite) → IsRecount form d journal text → IfErr r (λ f. RefusesRecount form d journal f)
recount_unsent form d journal text (Ok x) complete is told = tt
recount_unsent form d journal text (Err f) true is told = absurd cc
recount_unsent form d journal text (Err f) false is told =
    let same : f ≡ fault.CannotWrite = ap (λ (o : Option Fault). unwrap_or o f) is in
    subst (λ (x : Fault). RefusesRecount form d journal x) (sym same) (text, told)
