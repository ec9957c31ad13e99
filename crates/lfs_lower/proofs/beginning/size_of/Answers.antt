use Rattle.std.proofs.Common.{◌≡◌, ◌+◌, Option, Some, None, false, refl, ap, sym, ◌∙◌, arith}
use Rattle.std.specs.Option.{is_some}
use Rattle.lfs_lower.specs.Beginning.{begins_with}
use Rattle.lfs_lower.specs.declared.told.Superblock.{Superblock}
use Rattle.lfs_lower.proofs.BeginningLemmas.{none_behind, none_below, none_first}
use Rattle.lfs_lower.proofs.beginning.size_of.Goals as goal

not_some : (o : Option Superblock) → is_some o ≡ false → o ≡ None
not_some None e = refl
not_some (Some s) e = absurd cc

pub loop-size-init : goal.loop-size-init
loop-size-init c = (omega arith, refl, omega arith, none_first c.args.bytes.now)

pub loop-size-preserved : goal.loop-size-preserved
loop-size-preserved c =
    let i = c.loop-size.invariant in
    let small = c.loop-size-test.true in
    let none = not_some (begins_with c.loop-size.size c.args.bytes.now)
    (sym (c.is_some.ensures ∙ ap is_some c.begins_with.ensures) ∙ c.if-is_some.false) in (
      omega (arith, i.0),
      omega (arith, i.1),
      omega (arith, small),
      none_below c.args.bytes.now c.loop-size.size (c.loop-size.size + 16) i.3 none i.1 refl,
    )

pub returns : goal.returns
returns c = λ size. none_behind c.args.bytes.now c.loop-size.size (omega (arith, c.loop-size-test.false)) c.loop-size.invariant.3 size
