use Rattle.lfs_listing.proofs.ReadingLemmas.{files_read}
use Rattle.lfs_listing.proofs.images.Images.have_same_contents.Goals as goal

pub returns : goal.returns
returns g c =
    files_read c.begins_with.result c.args.self.now (g.A.Blocks.disk c.self.inside.first.now) (g.B.Blocks.disk c.self.inside.second.now)
    c.args.size c.args.blocks.now c.args.others.now c.of_chain-unread.result c.begins_with.new.unread c.self.view_is
    c.requires.first c.requires.second c.of_chain-unread.ensures c.begins_with.ensures
