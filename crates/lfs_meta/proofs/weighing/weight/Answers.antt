-- What fits is small enough to be summed.
use Rattle.std.proofs.Common.{◌<◌, arith, subst, sym}
use Rattle.lfs_meta.specs.BodyHeld.{body_held}
use Rattle.lfs_meta.specs.Fits.{RiseFrom}
use Rattle.lfs_meta.proofs.FitsLemmas.{body_bytes-small}
use Rattle.lfs_meta.proofs.weighing.weight.Goals as goal

pub attributes_weight-requires : goal.attributes_weight-requires
attributes_weight-requires c = subst (RiseFrom 0) (sym c.deref.ensures.value) c.entry.invariant.attributes

pub overflow_add-result-2 : goal.overflow_add-result-2
overflow_add-result-2 c =
    let name : c.len.result < 1023 = omega (arith, c.len.ensures, c.entry.invariant.name) in
    let body : c.body_len.result < 1023 = omega (
      arith,
      c.body_len.ensures,
      body_bytes-small (body_held c.entry.inside.body) c.entry.invariant.body,
    ) in
    omega (arith, c.attributes_weight.ensures.small, name, body)

pub returns-clause-small : goal.returns-clause-small
returns-clause-small c =
    let name : c.len.result < 1023 = omega (arith, c.len.ensures, c.entry.invariant.name) in
    let body : c.body_len.result < 1023 = omega (
      arith,
      c.body_len.ensures,
      body_bytes-small (body_held c.entry.inside.body) c.entry.invariant.body,
    ) in
    omega (arith, c.attributes_weight.ensures.small, name, body)
