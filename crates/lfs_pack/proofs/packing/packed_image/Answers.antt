-- All rows are added to a new image.
use Rattle.std.proofs.Common.{[]}
use Rattle.std.proofs.lemmas.Result.{err_from_is_err_and}
use Rattle.lfs_fs.specs.Formatted.{empty_volume}
use Rattle.lfs_pack.proofs.PackedLemmas.{not_packed, rows_packed, rows_refused}
use Rattle.lfs_pack.proofs.packing.packed_image.Goals as goal

pub add_rows-requires-clause-new : goal.add_rows-requires-clause-new
add_rows-requires-clause-new c = (empty_volume c.args.size c.args.count c.args.limits [], c.in_ok-new.ensures)

pub returns-in_err-add_rows-clause-row : goal.returns-in_err-add_rows-clause-row
returns-in_err-add_rows-clause-row c =
    let p = err_from_is_err_and c.from_residual-in_err-add_rows.result c.from_residual-in_err-add_rows.ensures.1 in
    rw (p.1, p.2) (rows_refused c.args.size c.args.count c.args.limits c.args.rows.now c.in_ok-new.new c.add_rows.new.at
    c.in_err-add_rows.field-0.0 c.in_ok-new.ensures c.in_err-add_rows.ensures.refused)

pub returns-in_err-add_rows-clause-refused : goal.returns-in_err-add_rows-clause-refused
returns-in_err-add_rows-clause-refused c =
    let p = err_from_is_err_and c.from_residual-in_err-add_rows.result c.from_residual-in_err-add_rows.ensures.1 in
    rw (p.1, p.2) (λ what are. not_packed c.args.size c.args.count c.args.limits what c.add_rows.new.at c.in_err-add_rows.field-0.0
    (rows_refused c.args.size c.args.count c.args.limits c.args.rows.now c.in_ok-new.new c.add_rows.new.at
    c.in_err-add_rows.field-0.0 c.in_ok-new.ensures c.in_err-add_rows.ensures.refused what are))

pub returns-clause-packed : goal.returns-clause-packed
returns-clause-packed c =
    rows_packed c.packing_laws.ensures.texts c.args.size c.args.count c.args.limits c.args.rows.now c.in_ok-new.new c.add_rows.new.new
    c.in_ok-new.ensures c.in_ok-add_rows.ensures.added
