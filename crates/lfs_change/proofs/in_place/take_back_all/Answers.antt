-- One change more is taken back, and none is wanting.
use Rattle.std.proofs.Common.{◌≡◌, ℕ, ◌<◌, subst, arith}
use Rattle.lfs_history.specs.Moves.{Undoes, Repeats}
use Rattle.lfs_change.proofs.TakenBackLemmas.{undone_more}
use Rattle.lfs_change.proofs.in_place.take_back_all.Goals as goal

pub loop-preserved : goal.loop-preserved
loop-preserved c =
    let more : c.loop.counter < c.args.many = omega arith in
    undone_more c.args.many c.loop.counter c.args.session.now c.loop.session c.undo.new.self c.undo.result _ c.requires more
    c.loop.invariant c.undo.ensures.done c.undo.ensures.refused

pub returns : goal.returns
returns c =
    let all : c.loop.counter ≡ c.args.many = omega arith in
    subst (λ (n : ℕ). Repeats Undoes n c.args.session.now c.loop.session) all c.loop.invariant
