-- What fits is small.
use Rattle.std.proofs.Common.{◌≡◌, ℕ, ◌+◌, ◌-◌, ◌*◌, ◌<◌, ◌≤◌, List, [], ◌∷◌, length, arith}
use Rattle.std.specs.List.{AllByRecursion}
use Rattle.std.proofs.lemmas.List.Sums.{sum_by-cons}
use Rattle.lfs_meta.specs.Attribute.{Attributes}
use Rattle.lfs_meta.specs.Body.{StoredBody, Inline, Chain, Directory_at}
use Rattle.lfs_meta.specs.Fits.{AttributeFits, RiseFrom, BodyFits}
use Rattle.lfs_meta.specs.Body.{body_bytes, words}
use Rattle.lfs_meta.specs.Weighing.{attributes_weight}

rising_weight : (least room : ℕ) (xs : Attributes) → RiseFrom least xs → least + room ≡ 256 → attributes_weight xs ≤ room * 1026
rising_weight least room [] rise e = omega arith
rising_weight least room (a ∷ xs) rise e =
    let more : attributes_weight xs ≤ (256 - (a.0 + 1)) * 1026 = rising_weight (a.0 + 1) (256 - (a.0 + 1)) xs rise.2
    (omega (arith, rise.1.kind)) in
    omega (arith, more, rise.0, rise.1.kind, rise.1.value, sum_by-cons (λ (b : ℕ × List ℕ). 4 + length b.1) a xs)

pub attributes_weight-small : (xs : Attributes) → RiseFrom 0 xs → attributes_weight xs ≤ 262656
attributes_weight-small xs rise = rising_weight 0 256 xs rise (omega arith)

pub words-len : (first second : ℕ) → length (words first second) ≡ 8
words-len first second = omega arith

pub body_bytes-small : (b : StoredBody) → BodyFits b → length (body_bytes b) < 1023
body_bytes-small (Inline bytes) fits = fits
body_bytes-small (Chain head size) fits = omega arith
body_bytes-small (Directory_at first second) fits = omega arith

pub RiseFrom-each : (least : ℕ) (xs : Attributes) → RiseFrom least xs → AllByRecursion AttributeFits xs
RiseFrom-each least [] rise = tt
RiseFrom-each least (a ∷ xs) rise = (rise.1, RiseFrom-each (a.0 + 1) xs rise.2)
