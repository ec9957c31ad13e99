-- Both blocks of the pair are changed.
use Rattle.std.proofs.Common.{◌≡◌, ◌≢◌, ℕ, List, [], ◌∷◌, Some, ap, arith, sym, ◌∙◌, subst, rules}
use Rattle.std.specs.Prelude.{replicate}
use Rattle.std.proofs.lemmas.Result.{err_from_is_err_and}
use Rattle.lfs_meta.specs.Entry.{StoredEntry}
use Rattle.lfs_meta.specs.Part.{StoredPart}
use Rattle.lfs_pair.specs.Writing.{part_in, stored_part}
use Rattle.lfs_command.specs.PartWritten.{Found}
use Rattle.lfs_law.specs.WrittenLinks.{AddsPart, FillsFirst, IsFreeFor}
use Rattle.lfs_write.proofs.PairWrites.{second_free, pair_filled, first_filled}
use Rattle.lfs_write.proofs.link_writing.fill_pair.Goals as goal

pub add_change-requires-2-clause-free : goal.add_change-requires-2-clause-free
add_change-requires-2-clause-free g c =
    let d = g.B.Blocks.disk c.args.image.now in
    let old = c.args.changes.now.items in
    second_free d c.part.inside.pair _ old c.add_change.new.changes.items
    (subst (λ (x : Found). x.0.0 ≢ x.0.1) (sym c.part.view_is) c.requires.fits.apart)
    (subst (λ (x : Found). IsFreeFor d x.0 old) (sym c.part.view_is) c.requires.free)
    c.in_ok-add_change.ensures

-- the pair holds the part whichever of its blocks has it
pub returns-clause-adds : goal.returns-clause-adds
returns-clause-adds g c =
    let d = g.B.Blocks.disk c.args.image.now in
    let old = c.args.changes.now.items in
    let new = c.add_change-2.new.changes.items in
    let block = c.in-Some.block.items in
    let none : List ℕ = replicate 12 0 in
    let part : StoredPart = stored_part c.part.inside.entries.items c.part.inside.tail none in
    let bare : List ℕ = replicate c.size-size.result 255 in
    let erased : c.in_ok-erased.erased.items ≡ bare = search rules in
    let same = ap (λ (es : List StoredEntry). Some (stored_part es c.part.inside.tail none)) c.deref.ensures.value in
    let before : part_in block bare ≡ Some part = c.in-Some.ensures.before_erased ∙ same in
    let behind : part_in bare block ≡ Some part = c.in-Some.ensures.behind_erased ∙ same in
    subst (λ (x : Found). AddsPart d x.0 (x.0.0 ∷ x.0.1 ∷ []) (stored_part x.1.entries x.1.tail none) old new) c.part.view_is
    (pair_filled d c.part.inside.pair _ _ part old c.add_change.new.changes.items new
    (subst (λ (x : Found). x.0.0 ≢ x.0.1) (sym c.part.view_is) c.requires.fits.apart) c.in_ok-add_change.ensures
    c.in_ok-add_change-2.ensures (grind (arith, erased, before, behind)))

pub returns-clause-filled : goal.returns-clause-filled
returns-clause-filled g c =
    let d = g.B.Blocks.disk c.args.image.now in
    let block = c.in-Some.block.items in
    let erased : c.in_ok-erased.erased.items ≡ replicate c.size-size.result 255 = search rules in
    subst (λ (x : Found). FillsFirst d c.add_change-2.new.changes.items x.0) c.part.view_is
    (first_filled d c.part.inside.pair c.size-size.result _ block c.in_ok-erased.erased.items c.args.changes.now.items
    c.add_change.new.changes.items c.add_change-2.new.changes.items
    (subst (λ (x : Found). x.0.0 ≢ x.0.1) (sym c.part.view_is) c.requires.fits.apart) c.size-size.ensures.value c.in-Some.ensures erased
    c.in_ok-add_change.ensures c.in_ok-add_change-2.ensures)

pub returns-in_err-erased-clause-adds : goal.returns-in_err-erased-clause-adds
returns-in_err-erased-clause-adds g c = rw (err_from_is_err_and c.from_residual.result c.from_residual.ensures.1).1 tt

pub returns-in_err-erased-clause-filled : goal.returns-in_err-erased-clause-filled
returns-in_err-erased-clause-filled g c = rw (err_from_is_err_and c.from_residual.result c.from_residual.ensures.1).1 tt

pub returns-in_err-add_change-clause-adds : goal.returns-in_err-add_change-clause-adds
returns-in_err-add_change-clause-adds g c = rw (err_from_is_err_and c.from_residual-in_err-add_change.result c.from_residual-in_err-add_change.ensures.1).1 tt

pub returns-in_err-add_change-clause-filled : goal.returns-in_err-add_change-clause-filled
returns-in_err-add_change-clause-filled g c = rw (err_from_is_err_and c.from_residual-in_err-add_change.result c.from_residual-in_err-add_change.ensures.1).1 tt

pub returns-in_err-add_change-2-clause-adds : goal.returns-in_err-add_change-2-clause-adds
returns-in_err-add_change-2-clause-adds g c = rw (err_from_is_err_and c.from_residual-in_err-add_change-2.result c.from_residual-in_err-add_change-2.ensures.1).1 tt

pub returns-in_err-add_change-2-clause-filled : goal.returns-in_err-add_change-2-clause-filled
returns-in_err-add_change-2-clause-filled g c = rw (err_from_is_err_and c.from_residual-in_err-add_change-2.result c.from_residual-in_err-add_change-2.ensures.1).1 tt
