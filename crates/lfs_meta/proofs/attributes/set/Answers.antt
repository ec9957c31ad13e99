-- The attribute is replaced where its kind is there, and else goes in before the first greater one.
use Rattle.std.proofs.Common.{ℕ, ◌<◌, length, sym, ap, ◌∙◌, arith}
use Rattle.std.proofs.lemmas.List.{get_or_default}
use Rattle.std.proofs.lemmas.List.Sums.{prefix_len-le-length}
use Rattle.lfs_meta.proofs.AttributeLemmas.{place, is_lesser, put_by-new, put_by-old}
use Rattle.lfs_meta.proofs.attributes.set.Goals as goal
use Rattle.lfs_meta.proofs.attributes.set.Goals.{else-at-len-via-then-at-len+else-kind, else-at-len-via-else-at-len}

pub returns-then-kind-clause-set : goal.returns-then-kind-clause-set
returns-then-kind-clause-set g c =
    let within : c.place_of-at.result < length c.args.attributes.now.items = omega arith in
    sym (put_by-old g.A.HasKind.kind_of c.args.attribute c.args.attributes.now.items c.place_of-at.result
    (c.place_of-at.ensures ∙ ap (place g.A.HasKind.kind_of c.kind-kind.result) c.deref.ensures.value
    ∙ ap (λ (k : ℕ). place g.A.HasKind.kind_of k c.args.attributes.now.items) c.kind-kind.ensures)
    within
    (λ d. ap g.A.HasKind.kind_of (get_or_default c.args.attributes.now.items c.place_of-at.result d c.index.result.now within
    ∙ sym c.index.ensures)
    ∙ sym c.kind.ensures ∙ c.if-kind.true ∙ c.kind-kind.ensures))

pub insert-requires : goal.insert-requires
insert-requires g c =
    omega (
      arith,
      c.place_of-at.ensures,
      c.deref.ensures.len,
      prefix_len-le-length
          (is_lesser g.A.HasKind.kind_of c.kind-kind.result) c.deref.result.now,
    )

pub returns-clause-set : goal.returns-clause-set
returns-clause-set g c =
    c.in_ok-insert.ensures.items ∙ sym (put_by-new g.A.HasKind.kind_of c.args.attribute c.args.attributes.now.items c.place_of-at.result
    (c.place_of-at.ensures ∙ ap (place g.A.HasKind.kind_of c.kind-kind.result) c.deref.ensures.value
    ∙ ap (λ (k : ℕ). place g.A.HasKind.kind_of k c.args.attributes.now.items) c.kind-kind.ensures)
    (λ within d same. elim c.else-at-len.branch [
      | else-at-len-via-then-at-len+else-kind w ↦
          w.if-kind.false (w.kind.ensures ∙ ap g.A.HasKind.kind_of (w.index.ensures
          ∙ get_or_default c.args.attributes.now.items c.place_of-at.result w.index.result.now d within) ∙ same ∙ sym c.kind-kind.ensures)
      | else-at-len-via-else-at-len w ↦ absurd (omega arith)
    ]))
