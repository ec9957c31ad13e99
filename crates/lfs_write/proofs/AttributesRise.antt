-- Attributes whose kinds rise, and each of which fits into a tag.
use Rattle.std.proofs.Common.{ℕ, ◌+◌, ◌<◌, ◌≤◌, List, [], ◌∷◌, arith}
use Rattle.std.specs.Prelude.{All}
use Rattle.std.proofs.lemmas.List.Elements.{All-head, All-tail, All-weaker}
use Rattle.lfs_meta.specs.Attribute.{Attributes}
use Rattle.lfs_meta.specs.Fits.{AttributeFits, RiseFrom}
use Rattle.lfs_fs.specs.Sound.{AreAttributes}

rise_from : (limit least : ℕ) (attributes : Attributes) → All (λ a. least ≤ a.0) attributes → AreAttributes limit attributes
    → All AttributeFits attributes → RiseFrom least attributes
rise_from limit least [] low rise fit = tt
rise_from limit least (a ∷ more) low rise fit = (
  All-head (λ (b : ℕ × List ℕ). least ≤ b.0) a more low,
  All-head AttributeFits a more fit,
  rise_from limit (a.0 + 1) more (All-weaker (λ (b : ℕ × List ℕ). a.0 < b.0) (λ (b : ℕ × List ℕ). a.0 + 1 ≤ b.0)
      (λ b less. omega (arith, less)) more rise.1) rise.2
      (All-tail AttributeFits a more fit),
)

pub attributes_rise : (limit : ℕ) (attributes : Attributes) → AreAttributes limit attributes → All AttributeFits attributes
    → RiseFrom 0 attributes
attributes_rise limit attributes rise fit = rise_from limit 0 attributes (λ k d lt. omega arith) rise fit
