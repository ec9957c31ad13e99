-- The part is told by its view.
use Rattle.std.proofs.lemmas.Result.{IfOk-weaker}
use Rattle.lfs_pair.specs.Appending.{IsPairRewritten}
use Rattle.lfs_pair.specs.DifferenceSeen.{forced_seen}
use Rattle.lfs_write.proofs.PairWrites.{by_view}
use Rattle.lfs_write.proofs.link_writing.changed.Goals as goal

pub returns : goal.returns
returns g c =
    let d = g.B.Blocks.disk c.args.image.now in
    IfOk-weaker c.change_pair.result _ _
    (λ new. by_view (λ pair q. IsPairRewritten d pair (forced_seen c.args.forced) q new.0 new.1.items) _ c.args.part.now c.deref.result.now
    c.part.view_is c.deref.ensures.value) c.change_pair.ensures
