use Rattle.std.proofs.Common.{rules, ◌≡◌, length}
use Rattle.lfs_listing.proofs.ReadingLemmas.{chain_read}
use Rattle.lfs_listing.proofs.reading.has_contents.Goals as goal

pub returns : goal.returns
returns g c =
    let many : length c.args.bytes.now ≡ c.args.size = search rules in
    chain_read (g.A.Blocks.disk c.args.disk.now) c.args.size c.args.blocks.now c.of_bytes-unread.result c.begins_with.new.unread
    c.args.bytes.now c.begins_with.result c.requires c.of_bytes-unread.ensures many c.begins_with.ensures
