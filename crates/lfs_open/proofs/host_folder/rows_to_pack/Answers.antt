-- One row more is packed.
use Rattle.std.proofs.Common.{rules, ◌≡◌, ◌+◌, ◌++◌, ◌∷◌, [], drop, subst, sym, arith}
use Rattle.std.proofs.Math.ListN.{drop_of_length-le}
use Rattle.lfs_fs.proofs.ItemLemmas.{drop_at}
use Rattle.lfs_open.proofs.HostFolderLemmas.{IsPackedTo, all_packed, packed_further}
use Rattle.lfs_open.proofs.host_folder.rows_to_pack.Goals as goal

pub each-preserved : goal.each-preserved
each-preserved c =
    let folder = c.args.folder.now in
    let i = c.each.row-index in
    let more : c.push.new.self.items ≡ c.each.rows.items ++ c.pack_row.result ∷ [] = search rules in
    let packed = packed_further c.args.most folder (drop i folder) (drop (i + 1) folder) c.row-item.result c.each.rows.items c.pack_row.result
    c.pack_row.ensures (drop_at folder i c.row-item.result c.each-test.true c.row-item.is) c.each.invariant.packed in
    record { packed = subst (IsPackedTo c.args.most folder (drop (i + 1) folder)) (sym more) packed }

pub returns : goal.returns
returns c =
    let folder = c.args.folder.now in
    all_packed c.args.most folder (drop c.each.row-index folder) c.each.rows.items (drop_of_length-le folder (omega (arith, c.each-test.false)))
    c.each.invariant.packed
