-- What a row has is made, and its attributes are set.
use Rattle.std.proofs.lemmas.Result.{err_from_is_err_and}
use Rattle.lfs_pack.proofs.RowInParts.{adds_row, row_not_placed, row_not_set}
use Rattle.lfs_pack.proofs.rows.add_row.Goals as goal

pub returns-in_err-place-clause-refused : goal.returns-in_err-place-clause-refused
returns-in_err-place-clause-refused c =
    let p = err_from_is_err_and c.from_residual.result c.from_residual.ensures.1 in
    rw (p.1, p.2) (row_not_placed c.args.row.now c.args.new.now c.in_err-place.field-0.0 c.in_err-place.ensures.refused)

pub set_attributes-requires : goal.set_attributes-requires
set_attributes-requires c =
    let one = c.in_ok-place.ensures.placed c.requires.0 c.requires.1 in
    (one.2, one.4)

pub returns-in_err-set_attributes-clause-refused : goal.returns-in_err-set_attributes-clause-refused
returns-in_err-set_attributes-clause-refused c =
    let p = err_from_is_err_and c.from_residual-in_err-set_attributes.result c.from_residual-in_err-set_attributes.ensures.1 in
    rw (p.1, p.2) (row_not_set c.args.row.now c.packing_laws.ensures.texts c.args.new.now c.place.new.new
    c.in_err-set_attributes.field-0.0 c.in_ok-place.ensures.placed c.in_err-set_attributes.ensures.refused)

pub returns-clause-added : goal.returns-clause-added
returns-clause-added c =
    adds_row c.args.row.now c.args.new.now c.place.new.new c.set_attributes.new.new c.in_ok-place.ensures.placed
    c.in_ok-set_attributes.ensures.set
