-- The command that makes what a row has is carried out below the root.
use Rattle.std.proofs.Common.{map, sym, subst, vec_len}
use Rattle.std.proofs.lemmas.Result.{err_from_is_err_and}
use Rattle.lfs_command.specs.Command.{Command, HasNames}
use Rattle.lfs_pack.specs.Packed.{row_bytes}
use Rattle.lfs_pack.specs.RowsCarried.{CarriesOn, RefusesOn}
use Rattle.lfs_pack.specs.Unwritten.{IsOfRow}
use Rattle.lfs_pack.proofs.RowPlaced.{made_has_names, made_of_row, no_names, not_placed, not_spelled, placed, root_placed, some_names}
use Rattle.lfs_pack.proofs.rows.place.Goals as goal

pub returns-in_err-path-clause-refused : goal.returns-in_err-path-clause-refused
returns-in_err-path-clause-refused c =
    let p = err_from_is_err_and c.from_residual.result c.from_residual.ensures.1 in
    rw (p.1, p.2) (not_spelled c.args.row.now.path.now (row_bytes c.args.row.now) c.args.row.now.most c.args.new.now c.in_err-path.field-0.0
    c.in_err-path.ensures.refused)

pub returns-then-is_empty-clause-placed : goal.returns-then-is_empty-clause-placed
returns-then-is_empty-clause-placed c =
    let path = c.in_ok-path.path in
    root_placed c.args.row.now.path.now (map (λ n. n.now) path.items) (row_bytes c.args.row.now) c.args.row.now.most c.args.new.now c.in_ok-path.ensures.spelled
    (no_names (λ n. n.now) path.items (vec_len path) c.is_empty.result path.ok.0 c.is_empty.ensures c.if-is_empty.true)

pub carry_on-requires-clause-row : goal.carry_on-requires-clause-row
carry_on-requires-clause-row c =
    subst IsOfRow (sym c.making-command.ensures) (made_of_row (map (λ n. n.now) c.in_ok-path.path.items) (row_bytes c.args.row.now) c.args.row.now.most)

pub carry_on-requires-clause-names : goal.carry_on-requires-clause-names
carry_on-requires-clause-names c =
    subst HasNames (sym c.making-command.ensures)
    (made_has_names (map (λ n. n.now) c.in_ok-path.path.items) (row_bytes c.args.row.now) c.args.row.now.most c.in_ok-path.ensures.spelled.0)

pub returns-in_err-carry_on-clause-refused : goal.returns-in_err-carry_on-clause-refused
returns-in_err-carry_on-clause-refused c =
    let path = c.in_ok-path.path in
    let r = c.in_err-carry_on.field-0.0 in
    let p = err_from_is_err_and c.from_residual-in_err-carry_on.result c.from_residual-in_err-carry_on.ensures.1 in
    rw (p.1, p.2) (not_placed c.packing_laws.ensures.texts c.args.row.now.path.now (map (λ n. n.now) path.items) (row_bytes c.args.row.now) c.args.row.now.most
    c.args.new.now r c.in_ok-path.ensures.spelled
    (some_names (λ n. n.now) path.items (vec_len path) c.is_empty.result path.ok.0 c.is_empty.ensures c.if-is_empty.false)
    (subst (λ (k : Command). RefusesOn k c.args.new.now r) c.making-command.ensures c.in_err-carry_on.ensures.refused))

pub returns-clause-placed : goal.returns-clause-placed
returns-clause-placed c =
    let path = c.in_ok-path.path in
    placed c.args.row.now.path.now (map (λ n. n.now) path.items) (row_bytes c.args.row.now) c.args.row.now.most c.args.new.now c.carry_on.new.new
    c.in_ok-path.ensures.spelled
    (some_names (λ n. n.now) path.items (vec_len path) c.is_empty.result path.ok.0 c.is_empty.ensures c.if-is_empty.false)
    (subst (λ (k : Command). CarriesOn k c.args.new.now c.carry_on.new.new) c.making-command.ensures c.in_ok-carry_on.ensures.carried)
