-- So many blocks are used where an image has as many as it may.
use Rattle.std.proofs.Common.{◌-◌, ℕ, ap, sym, ◌∙◌, subst, arith}
use Rattle.lfs_law.proofs.CarriedFollow.{carried_follow}
use Rattle.lfs_pack.specs.Least.{IsLeastCount}
use Rattle.lfs_pack.proofs.LeastCounts.{few_free, least}
use Rattle.lfs_pack.proofs.least.least_count.Goals as goal

pub overflow_sub-result : goal.overflow_sub-result
overflow_sub-result c =
    let new = c.in_ok-new.new in
    let work = c.in_ok-new.ensures.packed.is in
    omega (arith, few_free new work.0 work.1, c.free_count.ensures, c.count.ensures)

pub returns-clause-count : goal.returns-clause-count
returns-clause-count c what are =
    let laws = c.packing_laws.ensures in
    let new = c.in_ok-new.new in
    subst (IsLeastCount c.args.size c.args.limits what)
    (sym (ap (λ (n : ℕ). n - c.free_count.result) c.count.ensures
    ∙ ap (λ (n : ℕ). new.image.disk.count - n) c.free_count.ensures))
    (least (carried_follow laws.cuts laws.cleans) laws.order laws.after c.args.size c.most_count-most.result c.args.limits c.args.rows.now new
    c.most_count-most.ensures.value c.most_count-most.ensures.geometry c.in_ok-new.ensures.packed what are)
