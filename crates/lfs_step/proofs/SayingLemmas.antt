-- What is said of a check, whose text went out, or didn't as a whole.
use Rattle.std.proofs.Common.{◌≡◌, ℕ, Bool, true, false, List, Option, Result, Ok, Err, IfErr, Some, refl, sym, ap, subst}
use Rattle.std.specs.Prelude.{not, unwrap_or}
use Rattle.std.specs.Result.{result_err}
use Rattle.lfs_block.specs.Disk.{Disk}
use Rattle.lfs_fs.specs.Mounted.{MountedValue, IsMountOf}
use Rattle.lfs_request.specs.Fault.{blames_output}
use Rattle.lfs_request.specs.declared.fault.Fault.{Fault}
use Rattle.lfs_sink.specs.Send.{Sends}
use Rattle.lfs_json.specs.declared.form.Form.{Form}
use Rattle.lfs_request.specs.declared.query.Query.TheVariants.{Check}
use Rattle.lfs_step.specs.Query.{RefusesReport, SendsReport, end_of_check}
use Rattle.lfs_step.specs.Summary.{check_text, has_longer}

-- it went out, or a beginning of it
went_out : (version : ℕ) (most : Option ℕ) (form : Form) (d : Disk) (m : MountedValue) → IsMountOf d m → (complete longer : Bool)
    → has_longer most m ≡ longer → (old new : Option (List ℕ)) → Sends complete old new (check_text form version most d m)
    → SendsReport (Check version most) form d (end_of_check complete longer) old new
went_out version most form d m mounts true true is old new sends = (m, mounts, is, sends)
went_out version most form d m mounts true false is old new sends = (m, mounts, is, sends)
went_out version most form d m mounts false longer is old new sends = (check_text form version most d m, (m, mounts, refl), sends)

pub check_sent : (version : ℕ) (most : Option ℕ) (form : Form) (d : Disk) (m : MountedValue) → IsMountOf d m → (complete longer : Bool)
    → longer ≡ has_longer most m → (ends : Option Fault) → ends ≡ end_of_check complete longer → (old new : Option (List ℕ))
    → Sends complete old new (check_text form version most d m) → SendsReport (Check version most) form d ends old new
check_sent version most form d m mounts complete longer is ends ended old new sends =
    subst (λ (f : Option Fault). SendsReport (Check version most) form d f old new) (sym ended)
    (went_out version most form d m mounts complete longer (sym is) old new sends)

-- it ends with a fault where it didn't go out, or a file is longer
ended_with : (f : Fault) (ends : Option Fault) (P : Fault → Type 0) → Some f ≡ ends → P (unwrap_or ends f) → P f
ended_with f ends P is holds = subst P (sym (ap (λ (o : Option Fault). unwrap_or o f) is)) holds

pub check_refused : (version : ℕ) (most : Option ℕ) (form : Form) (d : Disk) (m : MountedValue) → IsMountOf d m → (complete longer : Bool)
    → longer ≡ has_longer most m → (r : Result (Unit {0}) Fault) → result_err r ≡ end_of_check complete longer
    → IfErr r (λ f. RefusesReport (Check version most) form d f)
check_refused version most form d m mounts complete longer is (Ok x) ended = tt
check_refused version most form d m mounts true false is (Err f) ended = absurd (cc)
check_refused version most form d m mounts true true is (Err f) ended =
    ended_with f (end_of_check true true) (RefusesReport (Check version most) form d) ended (m, mounts, sym is)
check_refused version most form d m mounts false longer is (Err f) ended =
    ended_with f (end_of_check false longer) (RefusesReport (Check version most) form d) ended (check_text form version most d m, (m, mounts, refl))

-- the sink is blamed where it didn't go out
pub check_ends : (complete longer : Bool) → not complete ≡ blames_output (end_of_check complete longer)
check_ends true true = refl
check_ends true false = refl
check_ends false longer = refl
