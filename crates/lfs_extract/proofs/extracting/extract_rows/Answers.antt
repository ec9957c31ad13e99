-- The rows of a mounted image can be made where their names are texts.
use Rattle.std.proofs.Common.{◌≡◌, ◌∙◌, List, sym, subst, All}
use Rattle.std.specs.Prelude.{IfErr}
use Rattle.lfs_block.specs.Disk.{Disk}
use Rattle.lfs_fs.specs.Path.{Path}
use Rattle.lfs_fs.specs.Row.{Row}
use Rattle.lfs_fs.specs.RowShown.{HasBlocks}
use Rattle.lfs_fs.specs.Sound.{IsSound}
use Rattle.lfs_listing.specs.Below.{names}
use Rattle.lfs_extract.specs.Extracted.{HasRefusedOne, HaveTexts, all_made}
use Rattle.lfs_extract.specs.declared.extract_fault.ExtractFault.TheVariants.{CannotWrite}
use Rattle.lfs_extract.specs.RowsBelow.{rows_below}
use Rattle.lfs_extract.proofs.NameLemmas.{stay_below}
use Rattle.lfs_extract.proofs.MakingLemmas.{judges, rows_have_blocks}
use Rattle.lfs_extract.proofs.TreeLemmas.{of_tree}
use Rattle.lfs_extract.proofs.extracting.extract_rows.Goals as goal

pub make_rows-requires-clause-blocks : goal.make_rows-requires-clause-blocks
make_rows-requires-clause-blocks g c =
    let d : Disk = g.B.Blocks.disk c.args.disk.now in
    subst (All (λ (r : Row). HasBlocks d r.entry.body)) (sym c.rows-2.ensures)
    (rows_have_blocks c.rows_show_the_tree.ensures d c.size-within_limits.ensures.disk c.args.mounted.now c.requires.mounted)

pub make_rows-requires-clause-texts : goal.make_rows-requires-clause-texts
make_rows-requires-clause-texts g c =
    subst (λ (rows : List Row). HaveTexts (rows_below (names c.args.at.now) rows)) (c.rows.ensures ∙ sym c.rows-2.ensures)
    c.if-not-have_host_texts.ensures

pub returns-clause-names : goal.returns-clause-names
returns-clause-names g c =
    let is = c.requires.mounted in
    let at : Path = names c.args.at.now in
    let sound : IsSound c.args.mounted.now.outline = subst IsSound (sym is.outline) (c.outlines_are_sound.ensures is.volume is.sound) in
    let texts = subst (λ (rows : List Row). HaveTexts (rows_below at rows)) c.rows.ensures c.if-not-have_host_texts.ensures in
    judges c.make_rows.result _ _ _ (rows_below at c.args.mounted.now.rows) c.make_rows.ensures.made
    (stay_below c.args.mounted.now.outline sound at c.args.mounted.now.rows is.rows.right texts)

pub returns-then-not-have_host_texts-clause-tree : goal.returns-then-not-have_host_texts-clause-tree
returns-then-not-have_host_texts-clause-tree g c =
    of_tree c.rows_show_the_tree.ensures (g.B.Blocks.disk c.args.disk.now) c.size-within_limits.ensures.disk c.args.mounted.now
    c.requires.mounted (names c.args.at.now) c.args.dir.now

pub returns-clause-tree : goal.returns-clause-tree
returns-clause-tree g c =
    of_tree c.rows_show_the_tree.ensures (g.B.Blocks.disk c.args.disk.now) c.size-within_limits.ensures.disk c.args.mounted.now
    c.requires.mounted (names c.args.at.now) c.args.dir.now

pub returns-clause-blamed : goal.returns-clause-blamed
returns-clause-blamed g c = subst (λ (rows : List Row). IfErr c.make_rows.result (λ fault. fault ≡ CannotWrite
    → HasRefusedOne (g.F.Known.known c.make_rows.new.folder) (all_made (g.B.Blocks.disk c.args.disk.now) c.args.dir.now (rows_below (names c.args.at.now) rows))))
    c.rows-2.ensures c.make_rows.ensures.blamed
