-- One row more is added behind those before it.
use Rattle.std.proofs.Common.{◌+◌, refl, drop, arith}
use Rattle.std.proofs.lemmas.Result.{err_from_is_err_and}
use Rattle.lfs_fs.proofs.ItemLemmas.{drop_at}
use Rattle.lfs_pack.proofs.ItemsInTurn.{drop_all}
use Rattle.lfs_pack.proofs.RowsInTurn.{at_end, one_more, one_refused}
use Rattle.lfs_pack.proofs.rows.add_rows.Goals as goal

pub each-init : goal.each-init
each-init c = record {
  is = c.requires.new;
  counted = refl;
  added = λ e adds. adds;
  refused = λ end r refuses. refuses;
}

pub returns-in_err-add_row-clause-refused : goal.returns-in_err-add_row-clause-refused
returns-in_err-add_row-clause-refused c =
    let rows = c.args.rows.now in
    let i = c.each.row-index in
    let p = err_from_is_err_and c.from_residual.result c.from_residual.ensures.1 in
    rw (p.1, p.2) (one_refused rows (drop i rows) (drop (i + 1) rows) c.row-item.result c.args.new.now c.each.new
    c.args.at.now c.each.at c.in_err-add_row.field-0.0 c.each.invariant (drop_at rows i c.row-item.result c.each-test.true c.row-item.is)
    c.in_err-add_row.ensures.refused)

pub each-preserved : goal.each-preserved
each-preserved c =
    let rows = c.args.rows.now in
    let i = c.each.row-index in
    one_more c.packing_laws.ensures.texts rows (drop i rows) (drop (i + 1) rows) c.row-item.result c.args.new.now c.each.new
    c.add_row.new.new c.args.at.now c.each.at c.each.invariant (drop_at rows i c.row-item.result c.each-test.true c.row-item.is) c.in_ok-add_row.ensures.added

pub returns-clause-added : goal.returns-clause-added
returns-clause-added c =
    let rows = c.args.rows.now in
    at_end rows (drop c.each.row-index rows) c.args.new.now c.each.new c.args.at.now c.each.at c.each.invariant
    (drop_all rows c.each.row-index (omega (arith, c.each-test.false)))
