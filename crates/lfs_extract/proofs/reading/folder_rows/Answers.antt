use Rattle.std.proofs.Common.{◌≡◌, [], arith}
use Rattle.lfs_fs.proofs.ItemLemmas.{no_elements}
use Rattle.lfs_extract.specs.declared.walking.TheConstants.{MOST_BYTES}
use Rattle.lfs_extract.proofs.WalkStepLemmas.{walk_end}
use Rattle.lfs_extract.proofs.reading.folder_rows.Goals as goal

pub returns-clause-rows : goal.returns-clause-rows
returns-clause-rows g c =
    let old = c.loop-name.walk in
    let empty : old.waiting.items ≡ [] = no_elements old.waiting.items (omega (arith, c.in_default.ensures.cases.0)) in
    let walking = c.loop-name.invariant.walking in
    walk_end MOST_BYTES (g.H.Known.known c.args.host.now).tree c.args.dir.now old.rows.items (rw empty at walking)
