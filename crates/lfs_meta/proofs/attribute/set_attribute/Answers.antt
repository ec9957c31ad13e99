-- What is set still rises, and has the lengths of tags.
use Rattle.std.proofs.Common.{length, Result, Ok, Err, OnOk, OnErr, ◌≡◌, ℕ, List, sym, subst, ap, arith}
use Rattle.lfs_meta.specs.Attribute.{Attributes, set_attribute}
use Rattle.lfs_meta.specs.Fits.{RiseFrom, AttributeFits}
use Rattle.lfs_meta.proofs.ReplayFitsLemmas.{set_attribute-rises}
use Rattle.lfs_meta.proofs.attribute.set_attribute.Goals as goal

either_rises : {T E : Type 0} (r : Result T E) (k : ℕ) (v : List ℕ) (old new : Attributes) → OnOk r (new ≡ set_attribute k v old)
    → OnErr r (new ≡ old) → AttributeFits (k, v) → RiseFrom 0 old → RiseFrom 0 new
either_rises (Ok x) k v old new set same fits rise = subst (RiseFrom 0) (sym set) (set_attribute-rises 0 k v old (omega arith) fits rise)
either_rises (Err e) k v old new set same fits rise = subst (RiseFrom 0) (sym same) rise

pub returns-clause-rise : goal.returns-clause-rise
returns-clause-rise c rise =
    either_rises c.set.result c.args.kind c.in_ok-value.value.items c.args.attributes.now.items c.set.new.attributes.items c.set.ensures.set
    c.set.ensures.unchanged
    (record { kind = omega (arith, c.ranges.kind.fits); value = omega (arith, ap length c.in_ok-value.ensures.items, c.requires) }) rise
