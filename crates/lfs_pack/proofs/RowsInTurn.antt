-- Rows that are added one after another.
use Rattle.std.proofs.Common.{◌≡◌, ◌+◌, ℕ, List, [], ◌∷◌, refl, sym, subst, inl, inr, ap, arith, length}
use Rattle.std.specs.List.{AllZip}
use Rattle.lfs_fs.specs.Path.{TextsSpellOnePath}
use Rattle.lfs_fs.specs.Volume.{Volume}
use Rattle.lfs_command.specs.declared.refusal.Refusal.{Refusal}
use Rattle.lfs_pack.specs.Lead.{Lead}
use Rattle.lfs_pack.specs.declared.new_image.NewImage.{NewImage}
use Rattle.lfs_pack.specs.declared.pack_row.PackRow.{PackRow}
use Rattle.lfs_pack.specs.Packed.{IsRowOf, Packed, commands, row_commands}
use Rattle.lfs_pack.specs.RowsCarried.{AddsRow, AddsRows, IsAtWork, RefusesAdding, RefusesRows}
use Rattle.lfs_pack.specs.Stopped.{IsRowStopped}
use Rattle.lfs_pack.proofs.LedOn.{led_on}
use Rattle.lfs_pack.proofs.RowsSpelled.{same_row}

add_more : (row : PackRow) (more : List PackRow) (t u e : NewImage) → AddsRow row t u → AddsRows more u e → AddsRows (row ∷ more) t e
add_more row more t u e one all v at =
    let first = one v at in
    let rest = all first.2 first.4 in (
      first.0 ∷ rest.0,
      (first.1, rest.1),
      rest.2,
      led_on (row_commands first.0) (commands rest.0) v first.2 rest.2 first.3 rest.3,
      rest.4,
    )

-- so many rows behind a number, the next one is refused
abbrev pub IsStoppedAt : List Packed → Volume → ℕ → ℕ → Refusal → Type 0
IsStoppedAt packed v from at r = (i : ℕ) × (at ≡ from + i) × IsRowStopped packed v i r

-- so many rows behind the first
pub from_first : (packed : List Packed) (v : Volume) (at : ℕ) (r : Refusal) → IsStoppedAt packed v 0 at r → IsRowStopped packed v at r
from_first packed v at r (i, is, stop) =
    let same : at ≡ i = omega (arith, is) in
    subst (λ (n : ℕ). IsRowStopped packed v n r) (sym same) stop

refused_first : (row : PackRow) (more : List PackRow) (t : NewImage) (from : ℕ) (r : Refusal) → RefusesAdding row t r
    → RefusesRows (row ∷ more) t from from r
refused_first row more t from r (inl memory) = inl memory
refused_first row more t from r (inr refuses) = inr (λ v packed at each. stop packed v at each)
  -- the first row is refused
  where
    stop : (packed : List Packed) (v : Volume) → IsAtWork t v → AllZip IsRowOf (row ∷ more) packed → IsStoppedAt packed v from from r
    stop [] v at each = absurd each
    stop (p ∷ ps) v at each = (
      0,
      omega arith,
      record {
        before = [];
        row = p;
        later = ps;
        are = refl;
        many = refl;
        volume = v;
        led = refl;
        stopped = refuses v p at each.0;
      },
    )

-- one row more is added before the one that is refused
pub stopped_behind : (p : Packed) (ps : List Packed) (v u : Volume) (from end : ℕ) (r : Refusal) → Lead (row_commands p) v u
    → IsStoppedAt ps u (from + 1) end r → IsStoppedAt (p ∷ ps) v from end r
stopped_behind p ps v u from end r led (i, is, stop) = (
  i + 1,
  omega (arith, is),
  record {
    before = p ∷ stop.before;
    row = stop.row;
    later = stop.later;
    are = ap (λ (l : List Packed). p ∷ l) stop.are;
    many = let many : length stop.before ≡ i = stop.many in omega (arith, many);
    volume = stop.volume;
    led = led_on (row_commands p) (commands stop.before) v u stop.volume led stop.led;
    stopped = stop.stopped;
  },
)

refused_then : TextsSpellOnePath → (row : PackRow) (more : List PackRow) (t u : NewImage) (from end : ℕ) (r : Refusal) → AddsRow row t u
    → RefusesRows more u (from + 1) end r → RefusesRows (row ∷ more) t from end r
refused_then texts row more t u from end r one (inl memory) = inl memory
refused_then texts row more t u from end r one (inr refuses) = inr (λ v packed at each. stop packed v at each)
  -- the first row is added, and a later one refused
  where
    stop : (packed : List Packed) (v : Volume) → IsAtWork t v → AllZip IsRowOf (row ∷ more) packed → IsStoppedAt packed v from end r
    stop [] v at each = absurd each
    stop (p ∷ ps) v at each =
        let first = one v at in
        let same : first.0 ≡ p = same_row texts row first.0 p first.1 each.0 in
        stopped_behind p ps v first.2 from end r
        (subst (λ (x : Packed). Lead (row_commands x) v first.2) same first.3)
        (refuses first.2 ps first.4 each.1)

-- ---- in a loop

-- What adds the rest from here adds all from the beginning, and so it is with refusals. As many are counted as are added.
pub record AreBeingAdded (all rest : List PackRow) (t u : NewImage) (from at : ℕ) : Type 0 where
  pub is : (v : Volume) × IsAtWork u v
  pub counted : at + length rest ≡ from + length all
  pub added : (e : NewImage) → AddsRows rest u e → AddsRows all t e
  pub refused : (end : ℕ) (r : Refusal) → RefusesRows rest u at end r → RefusesRows all t from end r

pub one_more : TextsSpellOnePath → (all rest more : List PackRow) (row : PackRow) (t u e : NewImage) (from at : ℕ)
    → AreBeingAdded all rest t u from at → rest ≡ row ∷ more → AddsRow row u e → AreBeingAdded all more t e from (at + 1)
one_more texts all rest more row t u e from at so are one =
    let next = one so.is.0 so.is.1 in
    record {
      is = (next.2, next.4);
      counted = let long : length rest ≡ length (row ∷ more) = ap length are in omega (arith, so.counted, long);
      added = λ f adds. so.added f (subst (λ (l : List PackRow). AddsRows l u f) (sym are) (add_more row more u e f one adds));
      refused = λ end r refuses.
          so.refused end r (subst (λ (l : List PackRow). RefusesRows l u at end r) (sym are)
          (refused_then texts row more u e at end r one refuses));
    }

pub one_refused : (all rest more : List PackRow) (row : PackRow) (t u : NewImage) (from at : ℕ) (r : Refusal)
    → AreBeingAdded all rest t u from at → rest ≡ row ∷ more → RefusesAdding row u r → RefusesRows all t from at r
one_refused all rest more row t u from at r so are one =
    so.refused at r (subst (λ (l : List PackRow). RefusesRows l u at at r) (sym are) (refused_first row more u at r one))

pub at_end : (all rest : List PackRow) (t u : NewImage) (from at : ℕ) → AreBeingAdded all rest t u from at → rest ≡ [] → AddsRows all t u
at_end all rest t u from at so none =
    so.added u (subst (λ (l : List PackRow). AddsRows l u u) (sym none) (λ v at. ([], tt, v, refl, at)))
