-- An attribute is set of what is at the path that the text spells.
use Rattle.std.proofs.Common.{ℕ, List, map, subst}
use Rattle.std.proofs.lemmas.Result.{err_from_is_err_and}
use Rattle.lfs_command.specs.Command.{SetAttr}
use Rattle.lfs_pack.specs.RowsCarried.{CarriesOn, RefusesOn}
use Rattle.lfs_pack.proofs.RowPlaced.{set_has_names}
use Rattle.lfs_pack.proofs.AttributesInTurn.{none_spelled, one_not_set, one_set}
use Rattle.lfs_pack.proofs.rows.set_attribute.Goals as goal

pub returns-in_err-path-clause-refused : goal.returns-in_err-path-clause-refused
returns-in_err-path-clause-refused c =
    let a = c.args.attribute.now in
    let p = err_from_is_err_and c.from_residual.result c.from_residual.ensures.1 in
    rw (p.1, p.2) (none_spelled c.args.text.now (a.0, a.1.items) c.args.new.now c.in_err-path.field-0.0 c.in_err-path.ensures.refused)

pub carry_on-requires-clause-row : goal.carry_on-requires-clause-row
carry_on-requires-clause-row c = tt

pub carry_on-requires-clause-names : goal.carry_on-requires-clause-names
carry_on-requires-clause-names c =
    set_has_names (map (λ n. n.now) c.in_ok-path.path.items) c.args.attribute.now.0 c.as_slice.result.now c.in_ok-path.ensures.spelled.0

pub returns-in_err-carry_on-clause-refused : goal.returns-in_err-carry_on-clause-refused
returns-in_err-carry_on-clause-refused c =
    let a = c.args.attribute.now in
    let path = map (λ n. n.now) c.in_ok-path.path.items in
    let r = c.in_err-carry_on.field-0.0 in
    let p = err_from_is_err_and c.from_residual-in_err-carry_on.result c.from_residual-in_err-carry_on.ensures.1 in
    rw (p.1, p.2) (one_not_set c.args.text.now c.packing_laws.ensures.texts path a.0 a.1.items c.args.new.now r c.in_ok-path.ensures.spelled
    (subst (λ (value : List ℕ). RefusesOn (SetAttr path a.0 value) c.args.new.now r) c.as_slice.ensures.value
    c.in_err-carry_on.ensures.refused))

pub returns-clause-set : goal.returns-clause-set
returns-clause-set c =
    let a = c.args.attribute.now in
    let path = map (λ n. n.now) c.in_ok-path.path.items in
    one_set c.args.text.now c.packing_laws.ensures.texts path a.0 a.1.items c.args.new.now c.carry_on.new.new c.in_ok-path.ensures.spelled
    (subst (λ (value : List ℕ). CarriesOn (SetAttr path a.0 value) c.args.new.now c.carry_on.new.new) c.as_slice.ensures.value
    c.in_ok-carry_on.ensures.carried)

pub returns-clause-at_work : goal.returns-clause-at_work
returns-clause-at_work c =
    let one = c.in_ok-carry_on.ensures.carried c.requires.0 c.requires.1 in
    (one.0, one.2)
