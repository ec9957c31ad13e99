-- The rows of a mounted image are copied.
use Rattle.std.proofs.Common.{sym, subst, All}
use Rattle.std.proofs.lemmas.List.Elements.{All-contains_itself, All-weaker}
use Rattle.std.specs.List.{Contains}
use Rattle.lfs_block.specs.Disk.{Disk}
use Rattle.lfs_fs.specs.Row.{Row}
use Rattle.lfs_fs.specs.RowShown.{HasBlocks}
use Rattle.lfs_pack.proofs.TextLemmas.{are_copies}
use Rattle.lfs_pack.proofs.copying.source_rows.Goals as goal

pub copied_rows-requires : goal.copied_rows-requires
copied_rows-requires g c =
    let d : Disk = g.B.Blocks.disk c.args.disk.now in
    let m = c.args.mounted.now in
    subst (All (λ (r : Row). HasBlocks d r.entry.body)) (sym c.rows.ensures)
    (All-weaker (Contains m.rows) (λ (r : Row). HasBlocks d r.entry.body)
    (λ r there. (c.rows_show_the_tree.ensures d m c.requires r c.size-within_limits.ensures.disk there).1) m.rows (All-contains_itself m.rows))

pub returns : goal.returns
returns g c =
    let d : Disk = g.B.Blocks.disk c.args.disk.now in
    let m = c.args.mounted.now in
    are_copies c.rows_are_of_their_texts.ensures d m (λ most. c.rows_pack_to_their_tree.ensures.packable most d m c.requires) _ c.rows.ensures
    c.copied_rows.result c.copied_rows.ensures
