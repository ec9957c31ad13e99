-- One row more is packed.
use Rattle.std.proofs.Common.{rules, ◌≡◌, ◌+◌, ◌++◌, ◌∷◌, [], drop, subst, sym, arith}
use Rattle.std.proofs.Math.ListN.{drop_of_length-le}
use Rattle.lfs_fs.proofs.ItemLemmas.{drop_at}
use Rattle.lfs_pack.proofs.TextLemmas.{ArePackedTo, all_packed, packed_further}
use Rattle.lfs_pack.proofs.repacking.pack_rows.Goals as goal

pub each-preserved : goal.each-preserved
each-preserved c =
    let copied = c.args.copied.now in
    let i = c.each.row-index in
    let more : c.push.new.self.items ≡ c.each.rows.items ++ c.pack_row.result ∷ [] = search rules in
    let packed = packed_further c.args.most copied (drop i copied) (drop (i + 1) copied) c.row-item.result c.each.rows.items c.pack_row.result
    c.pack_row.ensures (drop_at copied i c.row-item.result c.each-test.true c.row-item.is) c.each.invariant.packed in
    record { packed = subst (ArePackedTo c.args.most copied (drop (i + 1) copied)) (sym more) packed }

pub returns : goal.returns
returns c =
    let copied = c.args.copied.now in
    all_packed c.args.most copied (drop c.each.row-index copied) c.each.rows.items (drop_of_length-le copied (omega (arith, c.each-test.false)))
    c.each.invariant.packed
