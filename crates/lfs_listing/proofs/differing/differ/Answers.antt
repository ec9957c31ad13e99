use Rattle.std.proofs.Common.{◌≡◌, ◌⊎◌, ◌∙◌, [], true, ap, inl, inr, sym}
use Rattle.lfs_json.specs.declared.form.Form.TheVariants.{Text}
use Rattle.lfs_listing.specs.Difference.{difference, is_some_text}
use Rattle.lfs_listing.proofs.MergeLemmas.{all_known, none_differ}
use Rattle.lfs_listing.proofs.differing.differ.Goals as goal
use Rattle.lfs_listing.proofs.differing.differ.Goals.{then-rows-test+else-not-are_empty, else-rows-test}

pub rows-preserved : goal.rows-preserved
rows-preserved g c = record {
  all = c.in_ok-append_next.ensures.text ∙ c.rows.invariant.all;
  first = c.in_ok-append_next.ensures.first;
  second = c.in_ok-append_next.ensures.second;
}

pub returns : goal.returns
returns g c =
    let rest = difference Text c.args.images.now.0 c.rows.first c.args.images.now.1 c.rows.second in
    let known : (is_some_text c.rows.text.items ≡ true) ⊎ (rest ≡ []) = elim c.rows-test.branch [
      | then-rows-test+else-not-are_empty w ↦ inr (none_differ Text c.args.images.now.0 c.args.images.now.1 c.rows.first c.rows.second (sym w.if-not-are_empty.ensures))
      | else-rows-test w ↦ inl (sym (w.rows-test.ensures ∙ ap is_some_text c.deref.ensures.value))
    ] in
    c.is_some_text-2.ensures ∙ ap is_some_text c.deref-2.ensures.value ∙ all_known _ _ _ c.rows.invariant.all known
