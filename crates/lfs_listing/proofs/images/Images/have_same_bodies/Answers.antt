use Rattle.lfs_listing.proofs.BodyLemmas.{bytes_beside}
use Rattle.lfs_listing.proofs.images.Images.have_same_bodies.Goals as goal

pub returns-in-Inline-Chain : goal.returns-in-Inline-Chain
returns-in-Inline-Chain g c =
    bytes_beside c.has_contents.result c.args.self.now (g.A.Blocks.disk c.self.inside.first.now) (g.B.Blocks.disk c.self.inside.second.now)
    c.args.body.now c.args.other.now c.in-Inline-Chain.bytes c.in-Inline-Chain.blocks c.in-Inline-Chain.size c.self.view_is
    c.in-Inline-Chain.is-0 c.in-Inline-Chain.is-1 c.has_contents.ensures
