-- What is known of the image before holds where no changed block is, and what is left is gathered.
use Rattle.std.proofs.Common.{◌≡◌, List, Bool, length, refl, sym, ◌∙◌, subst, arith}
use Rattle.std.proofs.lemmas.List.{with_items_is}
use Rattle.lfs_fs.specs.Reread.{IsOutlineBut}
use Rattle.lfs_fs.specs.Used.{Marks}
use Rattle.lfs_fs.proofs.KnownLemmas.{are_known, known_geometry}
use Rattle.lfs_fs.proofs.MarkingLemmas.{none_marked}
use Rattle.lfs_fs.proofs.RereadLemmas.{reread_gathered}
use Rattle.lfs_fs.proofs.rereading.regather.Goals as goal

pub start-requires-clause-fresh : goal.start-requires-clause-fresh
start-requires-clause-fresh g c =
    subst (λ (used : List Bool). Marks used (λ b. 0))
    (sym (c.as_mut_slice-table.ensures.value ∙ c.in_ok-used.ensures.items_if_clones_equal (λ y same. same)))
    (none_marked c.outline.inside.count)

pub start-requires-clause-known : goal.start-requires-clause-known
start-requires-clause-known g c =
    let d = g.B.Blocks.disk c.args.blocks.now in
    let h = subst (IsOutlineBut c.args.changed.now d) (sym c.outline.view_is) c.requires in
    are_known c.parts_depend_on_their_blocks.ensures c.chains_stay_on_their_blocks.ensures.found
    c.chains_stay_on_their_blocks.ensures.content d c.args.changed.now c.in_ok-known.known.changed.items _ c.in_ok-known.known.parts.items h
    c.in_ok-known.ensures.changed c.in_ok-known.ensures.parts

pub returns : goal.returns
returns g c =
    let d = g.B.Blocks.disk c.args.blocks.now in
    let at = known_geometry d c.args.changed.now _ (subst (IsOutlineBut c.args.changed.now d) (sym c.outline.view_is) c.requires) in
    let used = c.reread_thread.new.used in
    let len : length used ≡ c.in_ok-used.used.len =
    omega (arith, c.reread_thread.auto.used, c.start.auto.used, c.as_mut_slice-table.ensures.len) in
    reread_gathered d c.outline.inside.limits c.in_ok-attributes.field-0.attributes.items used c.in_ok-attributes.field-0.joined
    c.in_ok-directories.directories.items _ c.in_ok-attributes.ensures.reread c.in_ok-settled.ensures.settled
    (with_items_is c.in_ok-used.used used len) c.in_ok-directories.ensures.directories (rw (at.0, at.1) refl)
