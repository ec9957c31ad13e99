-- What is left of the path leads on from the pair.
use Rattle.std.proofs.Common.{◌≡◌, map, drop}
use Rattle.lfs_fs.specs.Pair.{root}
use Rattle.lfs_law.specs.PairWalk.{pair_at}
use Rattle.lfs_law.specs.WalkRefusal.{walk_all}
use Rattle.lfs_draft.proofs.walking.walk.Given as goal

abbrev pub invariant-each : goal.invariant-each
invariant-each l = record {
  leads : pair_at l.directories l.here.pair (map (λ n. n.now) (drop l.name-index l.names))
      ≡ pair_at l.directories root (map (λ n. n.now) l.names);
  refuses : walk_all l.directories l.here.pair (map (λ n. n.now) (drop l.name-index l.names))
      ≡ walk_all l.directories root (map (λ n. n.now) l.names);
}
