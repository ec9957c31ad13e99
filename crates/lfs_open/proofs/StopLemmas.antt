-- How results are stopped, and what calls of a host keep.
use Rattle.std.proofs.Common.{◌≡◌, ℕ, List, Option, Some, Result, Err, sym, ap, subst, ◌∙◌}
use Rattle.std.specs.Prelude.{IfErr}
use Rattle.lfs_request.specs.declared.fault.Fault.{Fault}
use Rattle.lfs_request.specs.declared.manner.Manner.{Manner}
use Rattle.lfs_exchange.specs.Handing.{most_image}
use Rattle.lfs_host.specs.Files.{Files, ReadsFrom}
use Rattle.lfs_host.specs.Scene.{KeepsAll, Scene}
use Rattle.lfs_report.specs.Stop.{stopped_by}
use Rattle.lfs_report.specs.declared.stop.Stop.{Stop}
use Rattle.lfs_open.specs.Later.{refused_by}
use Rattle.lfs_report.specs.declared.later.Later.{Later}

-- ---- what calls keep

pub keeps_all : (old mid new : Scene) → KeepsAll old mid → KeepsAll mid new → KeepsAll old new
keeps_all old mid new first then = (
  (then.0.0 ∙ first.0.0, then.0.1 ∙ first.0.1, then.0.2 ∙ first.0.2),
  then.1 ∙ first.1,
  then.2 ∙ first.2,
  then.3 ∙ first.3,
)

-- what is read from a place on
pub reads_at : (files : Option Files) (name bytes : List ℕ) (place start : ℕ) → place ≡ start → ReadsFrom files name place most_image bytes
    → ReadsFrom files name start most_image bytes
reads_at files name bytes place start same reads = subst (λ (at : ℕ). ReadsFrom files name at most_image bytes) same reads

-- ---- commits of a later version

-- whether they are refused in bytes, by how it ended that they were looked for
pub refused_so : (manner : Manner) (later : List ℕ → Later) (read bytes : List ℕ) (ended known : Option Fault) → read ≡ bytes
    → ended ≡ refused_by manner (later read) → ended ≡ known → refused_by manner (later bytes) ≡ known
refused_so manner later read bytes ended known same is so = ap (λ (xs : List ℕ). refused_by manner (later xs)) (sym same) ∙ sym is ∙ so

-- ---- results

-- what a result was stopped by, where its fault is known
pub stopped_at : {T : Type 0} (r : Result T Stop) (fault : Fault) (stop : Stop) → r ≡ Err stop → stop.fault ≡ fault
    → stopped_by r ≡ Some fault
stopped_at r fault stop is same = ap stopped_by is ∙ ap Some same

-- what is said of a stop that is handed on
pub stopped_as : {T : Type 0} (r : Result T Stop) (Q : Stop → Type 0) (known stop : Stop) → r ≡ Err stop → stop ≡ known → Q known → IfErr r Q
stopped_as {T} r Q known stop is same holds = subst (λ (x : Result T Stop). IfErr x Q) (sym is) (subst Q (sym same) holds)

-- or of its fault, where that is known
pub told_as : {T : Type 0} (r : Result T Stop) (P : Fault → Type 0) (fault : Fault) (stop : Stop) → r ≡ Err stop → stop.fault ≡ fault → P fault
    → IfErr r (λ s. P s.fault)
told_as {T} r P fault stop is same holds = subst (λ (x : Result T Stop). IfErr x (λ s. P s.fault)) (sym is) (subst P (sym same) holds)
