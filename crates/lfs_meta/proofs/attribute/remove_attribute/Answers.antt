-- What is kept still rises.
use Rattle.std.proofs.Common.{ℕ, List, ◌==◌, not, subst, sym}
use Rattle.lfs_meta.specs.Fits.{RiseFrom}
use Rattle.lfs_meta.proofs.ReplayFitsLemmas.{filter-rises}
use Rattle.lfs_meta.proofs.attribute.remove_attribute.Goals as goal

pub returns-clause-rise : goal.returns-clause-rise
returns-clause-rise c rise =
    subst (RiseFrom 0) (sym c.remove.ensures) (filter-rises (λ (a : ℕ × List ℕ). not (c.args.kind == a.0)) 0 c.args.attributes.now.items
    rise)
