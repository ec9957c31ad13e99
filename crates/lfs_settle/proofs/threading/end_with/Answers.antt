-- The last part has the tail.
use Rattle.std.proofs.Common.{ℕ, ◌-◌, ◌<◌, List, ap, refl, set, sym, ◌∙◌, arith}
use Rattle.std.specs.Vec.{vec_len}
use Rattle.lfs_fs.specs.Gathering.{PairPart}
use Rattle.lfs_settle.proofs.Threadings.{ending_set, with_tail}
use Rattle.lfs_settle.proofs.threading.end_with.Goals as goal

pub returns-in-Some : goal.returns-in-Some
returns-in-Some c =
    let items : List PairPart = c.args.parts.now.items in
    let n : ℕ = vec_len c.args.parts.now in
    let p : PairPart = c.in-Some.last.now in
    let some' : 0 < n = c.in-Some.ensures.variant.0 refl in
    sym (ending_set c.args.tail items p (n - 1) (omega (arith, some', c.args.parts.now.ok))
    ∙ ap (λ (x : PairPart). set items (n - 1) (with_tail c.args.tail x)) (sym c.in-Some.ensures.value ∙ sym c.last.view_is))
