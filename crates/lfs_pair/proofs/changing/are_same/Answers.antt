-- Where no tag is left, one part is the other.
use Rattle.std.proofs.Common.{◌≡◌, ◌≤◌, ◌∙◌, List, [], ◌∷◌, length, refl, sym, ap, subst, arith, rules}
use Rattle.std.specs.Prelude.{All}
use Rattle.std.proofs.lemmas.Bool.{OnTrue_from, eqb-true}
use Rattle.std.proofs.lemmas.List.Elements.{recursion_from_All}
use Rattle.lfs_tag.specs.Writing.{items}
use Rattle.lfs_tag.specs.declared.edit.Edit.{Edit}
use Rattle.std.specs.Vec.{vec_len}
use Rattle.lfs_meta.specs.Body.{Pair}
use Rattle.lfs_meta.specs.Fits.{EntryFits}
use Rattle.lfs_meta.specs.Part.{StoredPart}
use Rattle.lfs_pair.specs.Difference.{Nothing, part_between}
use Rattle.lfs_pair.proofs.SameParts.{same_part}
use Rattle.lfs_pair.proofs.changing.are_same.Goals as goal

none : (edits : List Edit) → length edits ≡ 0 → items edits ≡ []
none [] len = refl
none (e ∷ es) len = cc

pub returns : goal.returns
returns c =
    let p : StoredPart = c.args.old.now.1 in
    let q : StoredPart = c.args.new.now.1 in
    let few : length p.entries ≤ 1023 = search rules in
    let twelve : length q.delta ≡ 12 = ap (λ (x : Pair × StoredPart). length x.1.delta) (sym c.new.view_is) ∙ c.part_between.ensures.twelve in
    let entries : c.deref.result.now ≡ q.entries = c.deref.ensures.value ∙ ap (λ (x : Pair × StoredPart). x.1.entries) c.new.view_is in
    let fits : All EntryFits q.entries = subst (All EntryFits) entries c.in_ok-edits.ensures.fits in
    let tags : items c.in_ok-edits.edits.items ≡ part_between Nothing p q = search rules in
    OnTrue_from c.is_empty.result (p ≡ q) (λ empty.
    same_part c.parts_become_others.ensures c.written_parts_replay.ensures.complete Nothing p q
    (recursion_from_All EntryFits p.entries c.requires.fit) (recursion_from_All EntryFits q.entries fits) few (omega (arith, c.requires.few))
    c.requires.tail twelve c.requires.old c.requires.new
    (sym tags ∙ none c.in_ok-edits.edits.items (omega (arith, c.in_ok-edits.edits.ok.0, eqb-true (vec_len c.in_ok-edits.edits) 0 (sym c.is_empty.ensures ∙ empty)))))
