use Rattle.std.proofs.Common.{ℕ, arith, subst, sym, ◌∙◌}
use Rattle.std.specs.Prelude.{◌≢◌}
use Rattle.lfs_fs.proofs.state.settled.Goals as goal

pub returns-then-move_type-ne0-clause-refused : goal.returns-then-move_type-ne0-clause-refused
returns-then-move_type-ne0-clause-refused c = subst (λ (n : ℕ). n ≢ 0) c.move_type.ensures c.if-move_type-ne0.true

pub returns-then-orphan_bit-ne0-clause-refused : goal.returns-then-orphan_bit-ne0-clause-refused
returns-then-orphan_bit-ne0-clause-refused c =
    (sym c.move_type.ensures ∙ c.if-move_type-ne0.false, omega (arith, c.orphan_bit.ensures, c.if-orphan_bit-ne0.true))

pub returns-then-not-is_none-clause-refused : goal.returns-then-not-is_none-clause-refused
returns-then-not-is_none-clause-refused c = (
  c.if-not-is_none.ensures,
  sym c.move_type.ensures ∙ c.if-move_type-ne0.false,
  sym c.orphan_bit.ensures ∙ c.if-orphan_bit-ne0.false,
)

pub returns-clause-settled : goal.returns-clause-settled
returns-clause-settled c = c.if-not-is_none.ensures
