-- The image holds what the rows say.
use Rattle.std.proofs.Common.{ℕ, List, sym, subst}
use Rattle.lfs_law.proofs.CarriedFollow.{carried_follow}
use Rattle.lfs_pack.specs.Packing.{IsPacked}
use Rattle.lfs_pack.proofs.PackedLemmas.{packed}
use Rattle.lfs_pack.proofs.packing.pack_within.Goals as goal

pub returns-clause-packed : goal.returns-clause-packed
returns-clause-packed c what are =
    let laws = c.packing_laws.ensures in
    subst (λ (bytes : List ℕ). IsPacked c.args.size c.args.count c.args.limits what bytes) (sym c.into_bytes.ensures)
    (packed (carried_follow laws.cuts laws.cleans) laws.map c.args.size c.args.count c.args.limits c.args.rows.now c.in_ok-new.new
    c.in_ok-image.image.disk c.in_ok-new.ensures.packed c.size-size.ensures.disk c.in_ok-image.ensures what are)
