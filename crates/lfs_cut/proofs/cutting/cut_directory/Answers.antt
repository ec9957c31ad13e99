-- A directory without a part that is set stays.
use Rattle.std.proofs.Common.{sym, ◌∙◌}
use Rattle.lfs_cut.proofs.CutPartLemmas.{none_set}
use Rattle.lfs_cut.proofs.cutting.cut_directory.Goals as goal

pub returns-else-has_set_part : goal.returns-else-has_set_part
returns-else-has_set_part c =
    none_set c.args.room.bytes c.args.room.superblock c.args.rows.now c.args.directory.now
    (sym c.has_set_part.ensures ∙ c.if-has_set_part.false)
