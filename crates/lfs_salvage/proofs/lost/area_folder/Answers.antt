-- A number in a folder below is below.
use Rattle.std.proofs.Common.{◌≡◌, ◌∙◌, ap, arith}
use Rattle.lfs_salvage.specs.Lost.{first_block}
use Rattle.lfs_salvage.proofs.LostFolderLemmas.{area_below}
use Rattle.lfs_salvage.proofs.lost.area_folder.Goals as goal

pub returns-clause-below : goal.returns-clause-below
returns-clause-below c = λ top above.
    let is : c.first_block-block.result ≡ first_block c.args.area.now.calls.items =
    c.first_block-block.ensures ∙ ap first_block c.deref.ensures.value in
    area_below top c.args.lost.now c.first_block-block.result c.args.area.now (omega arith) is above
