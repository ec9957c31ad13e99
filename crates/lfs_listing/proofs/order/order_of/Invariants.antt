use Rattle.std.proofs.Common.{◌≡◌, drop, map}
use Rattle.lfs_listing.specs.Order.{path_order}
use Rattle.lfs_listing.proofs.order.order_of.Given as goal

-- the names that are left decide
abbrev pub invariant-each : goal.invariant-each
invariant-each l = path_order (drop l.index (map (λ n. n.now) l.left)) (drop l.index (map (λ n. n.now) l.right))
    ≡ path_order (map (λ n. n.now) l.left) (map (λ n. n.now) l.right)
