-- One more edit writes one more tag.
use Rattle.std.proofs.Common.{◌≡◌, ◌∙◌, ◌+◌, List, [], ◌∷◌, ◌++◌, length, take, append-nil, append_assoc, ap, sym, arith}
use Rattle.std.proofs.lemmas.Bool.{OnTrue_from, eqb-true}
use Rattle.std.proofs.lemmas.List.{map-append, take_all, take_more}
use Rattle.lfs_tag.specs.Commit.{Item}
use Rattle.lfs_tag.specs.Tags.{item_with}
use Rattle.lfs_tag.specs.Writing.{item_of, items}
use Rattle.lfs_tag.specs.declared.edit.Edit.{Edit}
use Rattle.lfs_lower.proofs.plain.write_all.Goals as goal

pub each-preserved : goal.each-preserved
each-preserved c =
    let edits : List Edit = c.args.edits.now in
    let edit : Edit = c.index-edits-index.result in
    let item : Item = item_with c.in-Some.tag c.in-Some.content.now in
    let more : take (c.each.index + 1) edits ≡ take c.each.index edits ++ edit ∷ [] =
    take_more edits c.each.index edit c.if-index-edits.false
    ∙ ap (λ (e : Edit). take c.each.index edits ++ e ∷ []) (sym c.index-edits-index.is) in
    let written : items (take (c.each.index + 1) edits) ≡ items (take c.each.index edits) ++ item ∷ [] =
    ap items more ∙ map-append item_of (take c.each.index edits) (edit ∷ [])
    ∙ ap (λ (t : Item). items (take c.each.index edits) ++ t ∷ []) c.if-not-writes.ensures in
    record {
      is =
          c.each.invariant.is ∙ ap (λ (ts : List Item). items (take c.each.index edits) ++ ts) c.in-Some.ensures.steps
          ∙ sym (append_assoc (items (take c.each.index edits)) (item ∷ []) c.next.new.self)
          ∙ ap (λ (ts : List Item). ts ++ c.next.new.self) (sym written);
      most = omega (arith, c.if-index-edits.false);
    }

pub returns : goal.returns
returns c =
    let edits : List Edit = c.args.edits.now in
    OnTrue_from _ _ (λ all.
    let len = eqb-true c.each.index (length edits) all in
    let complete : take c.each.index edits ≡ edits = take_all c.each.index edits (omega (arith, len)) in
    sym (c.each.invariant.is ∙ ap (λ (ts : List Item). items (take c.each.index edits) ++ ts) c.in-None.ensures.steps.0
    ∙ append-nil (items (take c.each.index edits)) ∙ ap items complete))
