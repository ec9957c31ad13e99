-- The new ones of lesser kinds are added, and then the value of the old one's kind, or that it is gone.
use Rattle.std.proofs.Common.{◌≡◌, ℕ, List, ap, refl, sym, ◌∙◌, ◌+◌, arith, length}
use Rattle.std.proofs.lemmas.Slice.{between_to_end}
use Rattle.std.proofs.lemmas.Result.{err_from_is_err_and}
use Rattle.lfs_tag.specs.Writing.{items}
use Rattle.lfs_pair.specs.Difference.{gone_item}
use Rattle.lfs_pair.proofs.EditLemmas.{items-push}
use Rattle.lfs_pair.proofs.AttributesBetween.{place, value-pushed, gone-pushed}
use Rattle.lfs_pair.proofs.attributes_between.push_next.Goals as goal

pub returns-then-has_kind_at : goal.returns-then-has_kind_at
returns-then-has_kind_at c more =
    let kind : c.old.inside.kind ≡ c.args.old.now.0 = ap (λ (a : ℕ × List ℕ). a.0) c.old.view_is in
    value-pushed (items c.args.edits.now.items) (items c.push_attributes.new.edits.items) (items c.push_value.new.edits.items)
    c.args.forced c.args.id c.args.old.now c.index-attributes-count.result more c.args.attributes.now _ c.place_of-count.result
    (c.place_of-count.ensures ∙ ap (λ (k : ℕ). place k c.args.attributes.now) kind)
    c.if-has_kind_at.ensures.within c.index-attributes-count.is
    (ap (λ (a : ℕ × List ℕ). a.0) c.index-attributes-count.is
    ∙ c.if-has_kind_at.ensures.same c.index-attributes-count.result ∙ kind)
    (between_to_end c.args.attributes.now (c.place_of-count.result + 1) (length c.args.attributes.now) (omega arith))
    c.in_ok-push_attributes.ensures c.in_ok-push_value.ensures

pub returns : goal.returns
returns c more =
    let kind : c.old.inside.kind ≡ c.args.old.now.0 = ap (λ (a : ℕ × List ℕ). a.0) c.old.view_is in
    gone-pushed (items c.args.edits.now.items) (items c.push_attributes.new.edits.items) (items c.push.new.self.items)
    c.args.forced c.args.id c.args.old.now more c.args.attributes.now _ c.place_of-count.result
    (c.place_of-count.ensures ∙ ap (λ (k : ℕ). place k c.args.attributes.now) kind)
    (λ within d same. c.if-has_kind_at.ensures.other within d (same ∙ sym kind))
    (between_to_end c.args.attributes.now c.place_of-count.result (length c.args.attributes.now) (omega arith))
    c.in_ok-push_attributes.ensures
    (ap items c.in_ok-push.ensures.items
    ∙ items-push c.push_attributes.new.edits.items c.gone_edit.result (items c.push_attributes.new.edits.items) _ refl
    (c.gone_edit.ensures ∙ ap (gone_item c.args.id) kind))

pub returns-in_err-push_attributes : goal.returns-in_err-push_attributes
returns-in_err-push_attributes c = rw (err_from_is_err_and c.from_residual.result c.from_residual.ensures.1).1 tt

pub returns-in_err-push_value : goal.returns-in_err-push_value
returns-in_err-push_value c = rw (err_from_is_err_and c.from_residual-in_err-push_value.result c.from_residual-in_err-push_value.ensures.1).1 tt

pub returns-in_err-push : goal.returns-in_err-push
returns-in_err-push c = rw (err_from_is_err_and c.from_residual-in_err-push.result c.from_residual-in_err-push.ensures.1).1 tt
