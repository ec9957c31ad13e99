use Rattle.lfs_fs.specs.RowHeld.{row_body_held}
use Rattle.lfs_extract.specs.Making.{held_bytes}
use Rattle.lfs_extract.proofs.FillLemmas.{ended, left_begun}
use Rattle.lfs_extract.proofs.making.write_file.Goals as goal

pub returns-then-not-fill_file-clause-made : goal.returns-then-not-fill_file-clause-made
returns-then-not-fill_file-clause-made g c before makes =
    left_begun before (g.F.Known.known c.args.folder.now).made (g.F.Known.known c.fill_file.new.folder).made c.args.name.now
    (held_bytes (g.B.Blocks.disk c.args.disk.now) (row_body_held c.args.body.now)) makes c.fill_file.ensures.made c.if-not-fill_file.ensures.filled

pub returns-clause-made : goal.returns-clause-made
returns-clause-made g c before makes =
    ended c.end_file.result before (g.F.Known.known c.args.folder.now).made (g.F.Known.known c.fill_file.new.folder).made
    (g.F.Known.known c.end_file.new.self).made c.args.name.now
    (held_bytes (g.B.Blocks.disk c.args.disk.now) (row_body_held c.args.body.now)) makes c.fill_file.ensures.made c.if-not-fill_file.ensures.filled
    c.end_file.ensures.made
