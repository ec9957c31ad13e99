-- How many new blocks parts of few entries need.
use Rattle.std.proofs.Common.{◌*◌, ◌≤◌, Bool, true, false, List, [], ◌∷◌, length, arith}
use Rattle.std.specs.Prelude.{if◌then◌else◌, sum_by}
use Rattle.std.specs.List.{filter}
use Rattle.std.proofs.lemmas.List.Sums.{count_by-le-length, length-filter, sum_by-cons}
use Rattle.lfs_fs.specs.Directory.{Part}
use Rattle.lfs_fs.specs.Volume.{Volume}
use Rattle.lfs_command.specs.Need.{part_blocks}
use Rattle.lfs_law.proofs.NeedsSmall.{blocks_few}

-- parts need at most two blocks for each entry
pub needs_few : (v : Volume) (ps : List Part) → sum_by (part_blocks v) (filter (λ p. p.dirty) ps) ≤ 2 * sum_by (λ p. length p.entries) ps
needs_few v [] = omega arith
needs_few v (p ∷ ps) = by p.dirty (needs_few v ps)
  where
    by : (t : Bool) → sum_by (part_blocks v) (filter (λ q. q.dirty) ps) ≤ 2 * sum_by (λ q. length q.entries) ps
        → sum_by (part_blocks v) (if t then p ∷ filter (λ q. q.dirty) ps else filter (λ q. q.dirty) ps)
        ≤ 2 * sum_by (λ q. length q.entries) (p ∷ ps)
    by true later =
        omega (
          arith,
          later,
          blocks_few v p,
          sum_by-cons (part_blocks v) p (filter (λ q. q.dirty) ps),
          sum_by-cons (λ (q : Part). length q.entries) p ps,
        )
    by false later = omega (arith, later, sum_by-cons (λ (q : Part). length q.entries) p ps)

-- no more parts pass two tests than there are
pub few_pass : (f g : Part → Bool) (ps : List Part) → length (filter f (filter g ps)) ≤ length ps
few_pass f g ps =
    omega (
      arith,
      length-filter f (filter g ps),
      count_by-le-length f (filter g ps),
      length-filter g ps,
      count_by-le-length g ps,
    )
